-- What the pieces of one log claim.
use Rattle.std.proofs.Common.{◌≡◌, ℕ, ◌+◌, ◌-◌, List, Option, Some, None, refl, sym, ap, ◌∙◌, arith, inl}
use Rattle.wasm_types.specs.declared.key.RunKey.{RunKey}
use Rattle.rw_objects.specs.declared.entry.Entry.{Entry}
use Rattle.log_pieces.specs.declared.flat.Flat.{Flat}
use Rattle.log_pieces.specs.declared.flat.Flat.TheVariants.{Known, Clash}
use Rattle.log_pieces.specs.Agreed.{IsAgreed}
use Rattle.log_pieces.specs.declared.end.End.{End}
use Rattle.log_pieces.specs.Piece.{PieceValue}
use Rattle.replica.specs.LogOf.{ClaimsEntry, ClaimsEnd, Among}
use Rattle.replica.specs.Log.{entry_at, end_at}
use Rattle.replay_laws.specs.Log.{Log, IsBelow}
use Rattle.replay_laws.proofs.LogsOfPicks.{log_same}
use Rattle.run_pieces.specs.Joined.{gathered_log}
use Rattle.run_pieces.specs.PieceOf.{EachPieceOf, IsClaimed}
use Rattle.run_pieces.specs.Laws.{JoinedLogsAreBelow, CoveringPiecesMakeTheLog}

module _ {T : Type 0} (claimed : T → Type 0) where
  one_item : (x y : T) (l : Option (Flat T)) → l ≡ Some (Known x) → l ≡ Some (Known y) → x ≡ y
  one_item x y l e f = let same : Some (Known x) ≡ Some (Known y) = sym e ∙ f in cc

  -- what is claimed is known
  below_agreed : (o l : Option (Flat T)) → ((x : T) → claimed x → l ≡ Some (Known x)) → IsAgreed claimed o → IsBelow o l
  below_agreed None l known h = tt
  below_agreed (Some (Known x)) l known h = inl (known x h.0)
  below_agreed (Some Clash) l known h = absurd (h.4 (one_item h.0 h.1 l (known h.0 h.2) (known h.1 h.3)))

  -- and what is known is claimed
  same_agreed : (o l : Option (Flat T)) → ((x : T) → claimed x → l ≡ Some (Known x)) → IsClaimed claimed l → IsAgreed claimed o → o ≡ l
  same_agreed (Some (Known x)) l known cover h = sym (known x h.0)
  same_agreed (Some Clash) l known cover h = absurd (h.4 (one_item h.0 h.1 l (known h.0 h.2) (known h.1 h.3)))
  same_agreed None None known cover h = refl
  same_agreed None (Some (Known x)) known cover h = absurd (h x cover)
  same_agreed None (Some Clash) known cover h = absurd cover

module _ (key : RunKey) (log : Log) (pieces : List PieceValue) (each : EachPieceOf key log pieces) where
  known_entry : (t p : ℕ) (entry : Entry) → ((piece : PieceValue) × Among pieces piece × ClaimsEntry piece t p entry) → log.entry t p ≡ Some (Known entry)
  known_entry t p entry c =
      let piece = c.0 in
      let place : p ≡ piece.first + (p - piece.first) = omega (arith, c.2.1) in
      ap (λ n. log.entry n p) c.2.0 ∙ (ap (log.entry piece.thread) place ∙ (each piece c.1).entries (p - piece.first) entry c.2.2)

  known_end : (t : ℕ) (end : End) → ((piece : PieceValue) × Among pieces piece × ClaimsEnd piece t end) → log.end t ≡ Some (Known end)
  known_end t end c = ap log.end c.2.0 ∙ (each c.0 c.1).ends end c.2.1

pub joined_logs_are_below : JoinedLogsAreBelow
joined_logs_are_below key log pieces each gathered made =
    record {
      entries = λ t p. below_agreed _ (entry_at gathered t p) (log.entry t p) (known_entry key log pieces each t p) (made.entries t p);
      ends = λ t. below_agreed _ (end_at gathered t) (log.end t) (known_end key log pieces each t) (made.ends t);
    }

pub covering_pieces_make_the_log : CoveringPiecesMakeTheLog
covering_pieces_make_the_log key log pieces each covered gathered made =
    log_same (gathered_log gathered) log
    (λ t p. same_agreed _ (entry_at gathered t p) (log.entry t p) (known_entry key log pieces each t p) (covered.entries t p) (made.entries t p))
    (λ t. same_agreed _ (end_at gathered t) (log.end t) (known_end key log pieces each t) (covered.ends t) (made.ends t))
