-- In the world of a replay each version of an object has one writer at most.
use Rattle.std.proofs.Common.{sym, subst}
use Rattle.std.proofs.Math.Logic.{∥∥₁_elim}
use Rattle.std.proofs.Math.Nat.{ℕ_set}
use Rattle.std.specs.Coded.{le_prop}
use Rattle.rw_objects.specs.Space.{Space, SpaceLaws}
use Rattle.rw_objects.specs.Code.{Code, CodeLaws}
use Rattle.event_core.specs.Opening.{IsOpeningWorld}
use Rattle.event_core.specs.World.{WorldAt}
use Rattle.replay_laws.specs.Log.{Log}
use Rattle.replay_session.specs.Writers.{OneWriterEach}
use Rattle.replay_session.proofs.OneWriter.{versions_have_one_writer}
use Rattle.replay_gate.specs.Leads.{Leads}

module _ {State Op Reply Value Fixed : Type 0} (space : Space Op Reply Value Fixed) (code : Code State Op Reply Fixed) (laws : SpaceLaws space) (rules : CodeLaws space code) (log : Log) (opened w : WorldAt State Value Fixed) where
  led : IsOpeningWorld code opened → Leads space code log opened w → OneWriterEach log w
  led z l = subst (OneWriterEach log) (sym l.leads) (versions_have_one_writer space code laws rules opened z log l.picks l.gated)

  pub one_writer : ∥ IsOpeningWorld code opened ∥₁ → ∥ Leads space code log opened w ∥₁ → OneWriterEach log w
  one_writer z l = record {
    come = λ o v t p h. ∥∥₁_elim z le_prop (λ a. ∥∥₁_elim l le_prop (λ b. (led a b).come o v t p h));
    one = λ o v t p s q h k. ∥∥₁_elim z (hlevel ℕ_set) (λ a. ∥∥₁_elim l (hlevel ℕ_set) (λ b. (led a b).one o v t p s q h k));
  }
