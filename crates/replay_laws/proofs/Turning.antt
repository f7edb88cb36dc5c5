-- Turns and gated steps are one thing.
use Rattle.event_core.specs.declared.pick.Input.{Input}
use Rattle.replay_laws.specs.Log.{Log}
use Rattle.log_pieces.specs.declared.end.End.{End}
use Rattle.log_pieces.specs.declared.flat.Flat.{Flat}
use Rattle.log_pieces.specs.declared.flat.Flat.TheVariants.{Clash, Known}
use Rattle.rw_objects.specs.declared.entry.Entry.{Entry}
use Rattle.std.proofs.Common.{◌≡◌, ℕ, ◌<◌, Option, Some, None, refl, sym, ap, ◌∙◌, subst, inl, inr, arith}
use Rattle.std.specs.Prelude.{◌⊎◌}
use Rattle.replay_laws.proofs.System.{Next, Local, Ask, Asleep, Halted, System}
use Rattle.replay_laws.proofs.Worlds.{World, Do, action, Happening, Does, IsStep}
use Rattle.replay_laws.proofs.Logs.{IsEntryLet, IsEventLet, IsLet}
use Rattle.replay_laws.specs.Log.{IsCompleteLog}
use Rattle.replay_laws.proofs.Turns.{Answer, Moved, Passed, Missing, op_for, HasTouches, CanGive, IsReadyAt, action_for, IsItemTurn, Cannot, Is_shut, Not_ready, Passes, OfEntry, IsPlaceTurn, Past_places, At_place, OfNext, IsEndTurn, Ends, Ends_elsewhere, Steps_left, OfEnd, IsTurn, No_thread, Of_thread}
use Rattle.replay_laws.specs.Turns.{input_for}
use Rattle.replay_laws.proofs.Facts.{touches_found}
use Rattle.replay_laws.proofs.Refusals.{Given, given}

module _ {V O R S : Type 0} (sys : System V O R S) where
  module _ (log : Log) (h : Happening V S) where
    event_let : (e : Entry) → h.entry ≡ Some e → (places : ℕ) → IsEventLet (log.entry h.thread (h.before.places h.thread)) places h h.entry → IsEntryLet (log.entry h.thread (h.before.places h.thread)) places h e
    event_let e q places l = subst (λ y. IsEventLet (log.entry h.thread (h.before.places h.thread)) places h y) q l

    passes : (d : Given sys h (sys.next (h.before.state h.thread))) (places : ℕ) → IsEventLet (log.entry h.thread (h.before.places h.thread)) places h h.entry → (h.before.places h.thread < places) × OfEntry sys h.before h.thread Passed (log.entry h.thread (h.before.places h.thread))
    passes d places l =
        let b = event_let _ d.does.2 places l in
        let k : d.kind ≡ b.item.kind = b.same_kind in
        let names : op_for (sys.next (h.before.state h.thread)) b.item.kind ≡ Some d.op = ap (op_for (sys.next (h.before.state h.thread))) (sym k) ∙ d.names in
        let acts : action_for sys h.before h.thread b.item ≡ Do d.kind d.op d.after = ap (λ y. action (sys.next (h.before.state h.thread)) (input_for y)) (sym k) ∙ d.acts in
        let can : CanGive sys h.before h.thread b.item = subst (λ y. HasTouches sys y b.item) (sym names) (sym (touches_found h.before.version h.before.reads (sys.touches d.op)) ∙ b.same_touches) in
        let ready : IsReadyAt sys h.before (action_for sys h.before h.thread b.item) = subst (IsReadyAt sys h.before) (sym acts) d.does.0 in
        (b.place, rw b.is_known (Passes can b.is_open ready refl))

    answer : Option Entry → Answer
    answer None = Moved
    answer (Some e) = Passed

    next_turn : (e : End) → IsEventLet (log.entry h.thread (h.before.places h.thread)) e.places h h.entry → (n : Next O R S) → sys.next (h.before.state h.thread) ≡ n → (i : Input) → Does sys h (action n i)
        → OfNext sys log h.before h.thread Moved e n ⊎ OfNext sys log h.before h.thread Passed e n
    next_turn e l (Local s) q i d = inl refl
    next_turn e l (Ask op k) q i d = let p = passes (rw q (given sys h (Ask op k) i tt d)) e.places l in inr (At_place p.0 p.1)
    next_turn e l (Asleep resume out k) q i d = let p = passes (rw q (given sys h (Asleep resume out k) i tt d)) e.places l in inr (At_place p.0 p.1)
    next_turn e l (Halted x) q i d = absurd d

    -- a gated step is what a turn would do
    pub turn_of_step : IsStep sys h → IsLet log h → IsTurn sys log h.before h.thread Moved ⊎ IsTurn sys log h.before h.thread Passed
    turn_of_step s l = go (next_turn l.end l.event (sys.next (h.before.state h.thread)) refl h.input s.does)
      where
        at : (a : Answer) → OfNext sys log h.before h.thread a l.end (sys.next (h.before.state h.thread)) → IsTurn sys log h.before h.thread a
        at a p = Of_thread s.exists (rw l.is_known (Steps_left l.below p))

        go : OfNext sys log h.before h.thread Moved l.end (sys.next (h.before.state h.thread)) ⊎ OfNext sys log h.before h.thread Passed l.end (sys.next (h.before.state h.thread)) → IsTurn sys log h.before h.thread Moved ⊎ IsTurn sys log h.before h.thread Passed
        go (inl p) = inl (at Moved p)
        go (inr p) = inr (at Passed p)

  -- on a complete log nothing is missing
  module _ (log : Log) (complete : IsCompleteLog sys.threads log) (w : World V S) (t : ℕ) where
    known_is : (e : End) (l : t < sys.threads) → log.end t ≡ Some (Known e) → (complete.threads t l).end ≡ e
    known_is e l q = some_known _ e (sym (complete.threads t l).is_known ∙ q)
      where
        some_known : (a b : End) → Some (Known a) ≡ Some (Known b) → a ≡ b
        some_known a b p = cc

    gone_item : (item : Entry) → IsItemTurn sys w t Missing item → ⊥
    gone_item item (Cannot d p) = cc
    gone_item item (Is_shut c d p) = cc
    gone_item item (Not_ready c o d p) = cc
    gone_item item (Passes c o d p) = cc

    gone_entry : (item : Entry) (o : Option (Flat Entry)) → log.entry t (w.places t) ≡ o → log.entry t (w.places t) ≡ Some (Known item) → OfEntry sys w t Missing o → ⊥
    gone_entry item None q k p = let z : None ≡ Some (Known item) = sym q ∙ k in cc
    gone_entry item (Some (Known d)) q k p = gone_item d p
    gone_entry item (Some Clash) q k p = cc

    gone_place : (e : End) → t < sys.threads → log.end t ≡ Some (Known e) → IsPlaceTurn sys log w t Missing e → ⊥
    gone_place e l q (Past_places b p) = cc
    gone_place e l q (At_place b p) =
        let k = ap (λ y. y.places) (known_is e l q) in
        let d = (complete.threads t l).entries (w.places t) (omega arith) in
        gone_entry d.0 (log.entry t (w.places t)) refl d.1 p

    gone_next : (e : End) → t < sys.threads → log.end t ≡ Some (Known e) → (n : Next O R S) → OfNext sys log w t Missing e n → ⊥
    gone_next e l q (Local s) p = cc
    gone_next e l q (Ask op k) p = gone_place e l q p
    gone_next e l q (Asleep resume out k) p = gone_place e l q p
    gone_next e l q (Halted x) p = cc

    gone_end : (e : End) → t < sys.threads → log.end t ≡ Some (Known e) → IsEndTurn sys log w t Missing e → ⊥
    gone_end e l q (Ends b d p) = cc
    gone_end e l q (Ends_elsewhere b d p) = cc
    gone_end e l q (Steps_left b p) = gone_next e l q (sys.next (w.state t)) p

    gone_of_end : t < sys.threads → (o : Option (Flat (End))) → log.end t ≡ o → OfEnd sys log w t Missing o → ⊥
    gone_of_end l None q p = let c = complete.threads t l in let z : None ≡ Some (Known c.end) = sym q ∙ c.is_known in cc
    gone_of_end l (Some (Known e)) q p = gone_end e l q p
    gone_of_end l (Some Clash) q p = cc

    pub never_missing : IsTurn sys log w t Missing → ⊥
    never_missing (No_thread l p) = cc
    never_missing (Of_thread l p) = gone_of_end l (log.end t) refl p
