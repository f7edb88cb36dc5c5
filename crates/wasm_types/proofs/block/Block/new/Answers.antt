-- A power from 6 to 12 is one of seven, and the match tried the size of each.
use Rattle.std.proofs.Common.{◌≡◌, ◌^◌, ℕ, zero, suc, ◌≤◌, arith}
use Rattle.wasm_types.proofs.block.Block.new.Goals as goal

-- what holds of each of the seven sizes holds of two to each power from 6 to 12
sizes : (P : ℕ → Type 0) → P 64 → P 128 → P 256 → P 512 → P 1024 → P 2048 → P 4096 → (power : ℕ) → 6 ≤ power → power ≤ 12 → P (2 ^ power)
sizes P a b c d e f g zero l h = absurd (omega arith)
sizes P a b c d e f g (suc zero) l h = absurd (omega arith)
sizes P a b c d e f g (suc (suc zero)) l h = absurd (omega arith)
sizes P a b c d e f g (suc (suc (suc zero))) l h = absurd (omega arith)
sizes P a b c d e f g (suc (suc (suc (suc zero)))) l h = absurd (omega arith)
sizes P a b c d e f g (suc (suc (suc (suc (suc zero))))) l h = absurd (omega arith)
sizes P a b c d e f g (suc (suc (suc (suc (suc (suc zero)))))) l h = a
sizes P a b c d e f g (suc (suc (suc (suc (suc (suc (suc zero))))))) l h = b
sizes P a b c d e f g (suc (suc (suc (suc (suc (suc (suc (suc zero)))))))) l h = c
sizes P a b c d e f g (suc (suc (suc (suc (suc (suc (suc (suc (suc zero))))))))) l h = d
sizes P a b c d e f g (suc (suc (suc (suc (suc (suc (suc (suc (suc (suc zero)))))))))) l h = e
sizes P a b c d e f g (suc (suc (suc (suc (suc (suc (suc (suc (suc (suc (suc zero))))))))))) l h = f
sizes P a b c d e f g (suc (suc (suc (suc (suc (suc (suc (suc (suc (suc (suc (suc zero)))))))))))) l h = g
sizes P a b c d e f g (suc (suc (suc (suc (suc (suc (suc (suc (suc (suc (suc (suc (suc n))))))))))))) l h = absurd (omega arith)

pub returns-in_default-clause-bad : goal.returns-in_default-clause-bad
returns-in_default-clause-bad c e =
    sizes (λ n. n ≡ c.args.size → ⊥) (λ h. omega arith) (λ h. omega arith) (λ h. omega arith) (λ h. omega arith) (λ h. omega arith) (λ h. omega arith) (λ h. omega arith)
