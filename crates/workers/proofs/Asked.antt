-- A history with entries, as a history of what was asked and answered.
use Rattle.std.proofs.Common.{◌≡◌, ℕ, ◌==◌, Bool, true, false, cond, List, [], ◌∷◌, ◌++◌, length, map, refl, sym, ap, ◌∙◌, subst}
use Rattle.std.proofs.lemmas.List.{length-map}
use Rattle.rw_objects.specs.declared.entry.Entry.{Entry}
use Rattle.rw_objects.specs.Space.{Space}
use Rattle.rw_objects.specs.Memory.{Memory, entry_of, memory_after}
use Rattle.replay_laws.specs.History as history
use Rattle.shared_parts.specs.declared.call.Call.{Call}
use Rattle.shared_parts.specs.Calls.{IsLegalHistory, memory_after_calls, part_of, entries_in}
use Rattle.workers.specs.Driving.{asked, all_asked}

module _ {Op Reply : Type 0} where
  part_if : (b : Bool) (c : Call Op Reply) (cs ds : List (Call Op Reply)) → cond b (asked c ∷ all_asked cs) (all_asked cs) ≡ all_asked (cond b (c ∷ cs) cs)
  part_if true c cs ds = refl
  part_if false c cs ds = refl

  -- the calls of a thread
  pub part_asked : (t : ℕ) (cs : List (Call Op Reply)) → history.part t (all_asked cs) ≡ all_asked (part_of t cs)
  part_asked t [] = refl
  part_asked t (c ∷ cs) = ap (λ l. cond (c.thread == t) (asked c ∷ l) l) (part_asked t cs) ∙ part_if (c.thread == t) c (part_of t cs) cs

  entries_if : (b : Bool) (c : Call Op Reply) (e : Entry) (cs : List (Call Op Reply)) → c.entry ≡ e → cond b (e ∷ []) [] ++ entries_in cs ≡ entries_in (cond b (c ∷ cs) cs)
  entries_if true c e cs is = ap (λ x. x ∷ entries_in cs) (sym is)
  entries_if false c e cs is = refl

  module _ {Value Fixed : Type 0} (space : Space Op Reply Value Fixed) where
    pub legal_asked : (m : Memory Value Fixed) (cs : List (Call Op Reply)) → IsLegalHistory space m cs → history.IsLegalHistory space m (all_asked cs)
    legal_asked m [] l = tt
    legal_asked m (c ∷ cs) l = (l.0, l.1, legal_asked (memory_after space m c.op) cs l.3)

    pub memory_asked : (m : Memory Value Fixed) (cs : List (Call Op Reply)) → history.memory_after_calls space m (all_asked cs) ≡ memory_after_calls space m cs
    memory_asked m [] = refl
    memory_asked m (c ∷ cs) = memory_asked (memory_after space m c.op) cs

    pub entries_asked : (m : Memory Value Fixed) (cs : List (Call Op Reply)) (t : ℕ) → IsLegalHistory space m cs → history.entries_of_calls space m (all_asked cs) t ≡ entries_in (part_of t cs)
    entries_asked m [] t l = refl
    entries_asked m (c ∷ cs) t l =
        ap (λ es. cond (c.thread == t) (entry_of space m c.op ∷ []) [] ++ es) (entries_asked (memory_after space m c.op) cs t l.3)
        ∙ entries_if (c.thread == t) c (entry_of space m c.op) (part_of t cs) l.2
