-- A turn has one answer.
use Rattle.replay_laws.specs.Log.{Log}
use Rattle.log_pieces.specs.declared.end.End.{End}
use Rattle.log_pieces.specs.declared.flat.Flat.{Flat}
use Rattle.log_pieces.specs.declared.flat.Flat.TheVariants.{Clash, Known}
use Rattle.rw_objects.specs.declared.entry.Entry.{Entry}
use Rattle.std.proofs.Common.{◌≡◌, ℕ, Option, Some, None, sym, ◌∙◌, arith}
use Rattle.replay_laws.proofs.System.{Next, Local, Ask, Asleep, Halted, System}
use Rattle.replay_laws.proofs.Worlds.{World}
use Rattle.replay_laws.proofs.Turns.{Answer, IsItemTurn, Cannot, Is_shut, Not_ready, Passes, OfEntry, IsPlaceTurn, Past_places, At_place, OfNext, IsEndTurn, Ends, Ends_elsewhere, Steps_left, OfEnd, IsTurn, No_thread, Of_thread}

module _ {V O R S : Type 0} (sys : System V O R S) where
  one_item : (w : World V S) (t : ℕ) (a b : Answer) (item : Entry) → IsItemTurn sys w t a item → IsItemTurn sys w t b item → a ≡ b
  one_item w t a b item (Cannot n1 p) (Cannot n2 q) = p ∙ sym q
  one_item w t a b item (Cannot n1 p) (Is_shut c2 s2 q) = absurd (n1 c2)
  one_item w t a b item (Cannot n1 p) (Not_ready c2 o2 r2 q) = absurd (n1 c2)
  one_item w t a b item (Cannot n1 p) (Passes c2 o2 y2 q) = absurd (n1 c2)
  one_item w t a b item (Is_shut c1 s1 p) (Cannot n2 q) = absurd (n2 c1)
  one_item w t a b item (Is_shut c1 s1 p) (Is_shut c2 s2 q) = p ∙ sym q
  one_item w t a b item (Is_shut c1 s1 p) (Not_ready c2 o2 r2 q) = absurd (s1 o2)
  one_item w t a b item (Is_shut c1 s1 p) (Passes c2 o2 y2 q) = absurd (s1 o2)
  one_item w t a b item (Not_ready c1 o1 r1 p) (Cannot n2 q) = absurd (n2 c1)
  one_item w t a b item (Not_ready c1 o1 r1 p) (Is_shut c2 s2 q) = absurd (s2 o1)
  one_item w t a b item (Not_ready c1 o1 r1 p) (Not_ready c2 o2 r2 q) = p ∙ sym q
  one_item w t a b item (Not_ready c1 o1 r1 p) (Passes c2 o2 y2 q) = absurd (r1 y2)
  one_item w t a b item (Passes c1 o1 y1 p) (Cannot n2 q) = absurd (n2 c1)
  one_item w t a b item (Passes c1 o1 y1 p) (Is_shut c2 s2 q) = absurd (s2 o1)
  one_item w t a b item (Passes c1 o1 y1 p) (Not_ready c2 o2 r2 q) = absurd (r2 y1)
  one_item w t a b item (Passes c1 o1 y1 p) (Passes c2 o2 y2 q) = p ∙ sym q

  one_entry : (w : World V S) (t : ℕ) (a b : Answer) (o : Option (Flat Entry)) → OfEntry sys w t a o → OfEntry sys w t b o → a ≡ b
  one_entry w t a b None p q = p ∙ sym q
  one_entry w t a b (Some (Known item)) p q = one_item w t a b item p q
  one_entry w t a b (Some Clash) p q = p ∙ sym q

  one_place : (log : Log) (w : World V S) (t : ℕ) (a b : Answer) (e : End) → IsPlaceTurn sys log w t a e → IsPlaceTurn sys log w t b e → a ≡ b
  one_place log w t a b e (Past_places l p) (Past_places m q) = p ∙ sym q
  one_place log w t a b e (Past_places l p) (At_place m q) = absurd (omega arith)
  one_place log w t a b e (At_place l p) (Past_places m q) = absurd (omega arith)
  one_place log w t a b e (At_place l p) (At_place m q) = one_entry w t a b (log.entry t (w.places t)) p q

  one_next : (log : Log) (w : World V S) (t : ℕ) (a b : Answer) (e : End) (n : Next O R S) → OfNext sys log w t a e n → OfNext sys log w t b e n → a ≡ b
  one_next log w t a b e (Local s) p q = p ∙ sym q
  one_next log w t a b e (Ask op k) p q = one_place log w t a b e p q
  one_next log w t a b e (Asleep resume out k) p q = one_place log w t a b e p q
  one_next log w t a b e (Halted x) p q = p ∙ sym q

  one_end : (log : Log) (w : World V S) (t : ℕ) (a b : Answer) (e : End) → IsEndTurn sys log w t a e → IsEndTurn sys log w t b e → a ≡ b
  one_end log w t a b e (Ends l1 e1 p) (Ends l2 e2 q) = p ∙ sym q
  one_end log w t a b e (Ends l1 e1 p) (Ends_elsewhere l2 d2 q) = absurd (d2 e1)
  one_end log w t a b e (Ends l1 e1 p) (Steps_left m2 n2) = absurd (omega arith)
  one_end log w t a b e (Ends_elsewhere l1 d1 p) (Ends l2 e2 q) = absurd (d1 e2)
  one_end log w t a b e (Ends_elsewhere l1 d1 p) (Ends_elsewhere l2 d2 q) = p ∙ sym q
  one_end log w t a b e (Ends_elsewhere l1 d1 p) (Steps_left m2 n2) = absurd (omega arith)
  one_end log w t a b e (Steps_left m1 n1) (Ends l2 e2 q) = absurd (omega arith)
  one_end log w t a b e (Steps_left m1 n1) (Ends_elsewhere l2 d2 q) = absurd (omega arith)
  one_end log w t a b e (Steps_left m1 n1) (Steps_left m2 n2) = one_next log w t a b e (sys.next (w.state t)) n1 n2

  one_of_end : (log : Log) (w : World V S) (t : ℕ) (a b : Answer) (o : Option (Flat (End))) → OfEnd sys log w t a o → OfEnd sys log w t b o → a ≡ b
  one_of_end log w t a b None p q = p ∙ sym q
  one_of_end log w t a b (Some (Known e)) p q = one_end log w t a b e p q
  one_of_end log w t a b (Some Clash) p q = p ∙ sym q

  pub one_answer : (log : Log) (w : World V S) (t : ℕ) (a b : Answer) → IsTurn sys log w t a → IsTurn sys log w t b → a ≡ b
  one_answer log w t a b (No_thread l p) (No_thread m q) = p ∙ sym q
  one_answer log w t a b (No_thread l p) (Of_thread m q) = absurd (omega arith)
  one_answer log w t a b (Of_thread l p) (No_thread m q) = absurd (omega arith)
  one_answer log w t a b (Of_thread l p) (Of_thread m q) = one_of_end log w t a b (log.end t) p q
