-- Picks that are recorded one behind the other.
use Rattle.std.proofs.Common.{◌≡◌, ℕ, zero, suc, ◌+◌, ◌<◌, ◌≤◌, Bool, true, false, cond, List, [], ◌∷◌, ◌++◌, length, take, get_or, replicate, refl, sym, ap, ◌∙◌, subst, arith, append_assoc}
use Rattle.std.proofs.Math.Seq.{take-suc}
use Rattle.std.proofs.lemmas.List.{append-nil, take_all}
use Rattle.std.proofs.lemmas.Grind.{flat_map-append}
use Rattle.event_core.proofs.Places.{length_run}
use Rattle.rw_objects.specs.declared.entry.Entry.{Entry}
use Rattle.rw_objects.specs.Code.{Code}
use Rattle.rw_objects.specs.Space.{Space}
use Rattle.event_core.specs.declared.pick.Pick.{Pick}
use Rattle.event_core.specs.World.{WorldAt, world_after}
use Rattle.event_core.specs.Run.{entries, world_run}
use Rattle.replay_laws.proofs.Orders.{world_joined}
use Rattle.replay_laws.proofs.JoinedRuns.{entries_joined}
use Rattle.recorder.specs.Picks.{is_taken, step_taken, picks_taken, picks_passed}
use Rattle.recorder.specs.Recorded.{list_at, IsNoted, AreRecorded}
use Rattle.recorder.proofs.Rest.{entries_step, world_step, none_taken, all_passed}
use Rattle.pick_schedule.specs.declared.stretches.Stretch.{Stretch}
use Rattle.pick_schedule.specs.Stretches.{picks_of, picks_in}

-- a stretch in two parts
pub stretch_parts : (m n : ℕ) (p : Pick) → replicate m p ++ replicate n p ≡ replicate (m + n) p
stretch_parts zero n p = let z : n ≡ 0 + n = omega arith in ap (λ k. replicate k p) z
stretch_parts (suc m) n p = let z : suc (m + n) ≡ suc m + n = omega arith in ap (λ l. p ∷ l) (stretch_parts m n p) ∙ ap (λ k. replicate k p) z

-- the picks of one stretch more
stretches_more : (ss : List Stretch) (d : Stretch) (i : ℕ) (s : Stretch) → i < length ss → s ≡ get_or ss i d → picks_in (take i ss) ++ replicate s.times s.pick ≡ picks_in (take (suc i) ss)
stretches_more ss d i s l is =
    ap (λ x. picks_in (take i ss) ++ picks_of x) is ∙ ap (λ l. picks_in (take i ss) ++ l) (sym (append-nil (picks_of (get_or ss i d))))
    ∙ sym (flat_map-append picks_of (take i ss) (get_or ss i d ∷ [])) ∙ ap picks_in (sym (take-suc ss i d l))

module _ {State Op Reply Value Fixed : Type 0} (space : Space Op Reply Value Fixed) (code : Code State Op Reply Fixed) (steps : ℕ) where
  -- the picks that are taken of a list in two parts
  abbrev TakenJoined : WorldAt State Value Fixed → List Pick → List Pick → Type 0
  TakenJoined w ps qs = picks_taken space code steps w (ps ++ qs) ≡ picks_taken space code steps w ps ++ picks_taken space code steps (world_run space code w (picks_taken space code steps w ps)) qs

  abbrev PassedJoined : WorldAt State Value Fixed → List Pick → List Pick → Type 0
  PassedJoined w ps qs = picks_passed space code steps w (ps ++ qs) ≡ picks_passed space code steps w ps + picks_passed space code steps (world_run space code w (picks_taken space code steps w ps)) qs

  taken_by_first : (w : WorldAt State Value Fixed) (p : Pick) (ps qs : List Pick) (b : Bool) → is_taken space code steps w p ≡ b → TakenJoined (world_after space code w p) ps qs → TakenJoined w ps qs → TakenJoined w (p ∷ ps) qs
  taken_by_first w p ps qs true e h k = rw e (ap (λ l. p ∷ l) h)
  taken_by_first w p ps qs false e h k = rw e k

  passed_by_first : (w : WorldAt State Value Fixed) (p : Pick) (ps qs : List Pick) (b : Bool) → is_taken space code steps w p ≡ b → PassedJoined (world_after space code w p) ps qs → PassedJoined w ps qs → PassedJoined w (p ∷ ps) qs
  passed_by_first w p ps qs true e h k = rw e h
  passed_by_first w p ps qs false e h k = rw e (omega (arith, k))

  taken_joined : (w : WorldAt State Value Fixed) (ps qs : List Pick) → TakenJoined w ps qs
  taken_joined w [] qs = refl
  taken_joined w (p ∷ ps) qs = taken_by_first w p ps qs (is_taken space code steps w p) refl (taken_joined (world_after space code w p) ps qs) (taken_joined w ps qs)

  passed_joined : (w : WorldAt State Value Fixed) (ps qs : List Pick) → PassedJoined w ps qs
  passed_joined w [] qs = omega arith
  passed_joined w (p ∷ ps) qs = passed_by_first w p ps qs (is_taken space code steps w p) refl (passed_joined (world_after space code w p) ps qs) (passed_joined w ps qs)

  few_by_first : (w : WorldAt State Value Fixed) (p : Pick) (ps : List Pick) (b : Bool) → is_taken space code steps w p ≡ b → picks_passed space code steps (world_after space code w p) ps ≤ length ps → picks_passed space code steps w ps ≤ length ps → picks_passed space code steps w (p ∷ ps) ≤ suc (length ps)
  few_by_first w p ps true e h k = rw e (omega (arith, h))
  few_by_first w p ps false e h k = rw e (omega (arith, k))

  -- no more picks are passed over than there are
  pub few_passed : (w : WorldAt State Value Fixed) (ps : List Pick) → picks_passed space code steps w ps ≤ length ps
  few_passed w [] = omega arith
  few_passed w (p ∷ ps) = few_by_first w p ps (is_taken space code steps w p) refl (few_passed (world_after space code w p) ps) (few_passed w ps)

  pub none_recorded : (w : WorldAt State Value Fixed) (lists : List (List Entry)) (passed : ℕ) → AreRecorded space code steps [] w w lists lists passed passed
  none_recorded w lists passed = record { world = refl; logs = λ t h. sym (append-nil (list_at lists t)); passed = omega arith; len = refl }

  -- picks, and others behind them
  pub recorded_joined : (ps qs : List Pick) (w v u : WorldAt State Value Fixed) (one two three : List (List Entry)) (a b c : ℕ)
      → AreRecorded space code steps ps w v one two a b → AreRecorded space code steps qs v u two three b c → AreRecorded space code steps (ps ++ qs) w u one three a c
  recorded_joined ps qs w v u one two three a b c r s =
      let taken = picks_taken space code steps w ps in
      let rest = picks_taken space code steps (world_run space code w taken) qs in
      let both : picks_taken space code steps w (ps ++ qs) ≡ taken ++ rest = taken_joined w ps qs in
      record {
        world =
            s.world ∙ ap (λ x. world_run space code x (picks_taken space code steps x qs)) r.world
            ∙ sym (world_joined space code w taken rest) ∙ ap (world_run space code w) (sym both);
        logs = λ t h.
            s.logs t (subst (λ n. t < n) (sym r.len) h)
            ∙ ap (λ l. l ++ entries space code v (picks_taken space code steps v qs) t) (r.logs t h)
            ∙ append_assoc (list_at one t) (entries space code w taken t) _
            ∙ ap (λ x. list_at one t ++ (entries space code w taken t ++ entries space code x (picks_taken space code steps x qs) t)) r.world
            ∙ ap (λ l. list_at one t ++ l) (sym (ap (λ l. entries space code w l t) both ∙ entries_joined space code w taken rest t));
        passed =
            let x = r.passed in
            let y = s.passed ∙ ap (λ x. b + picks_passed space code steps x qs) r.world in
            let z = passed_joined w ps qs in
            omega (arith, x, y, z);
        len = s.len ∙ r.len;
      }

  -- one pick, whose step was noted
  pub one_recorded : (p : Pick) (w v : WorldAt State Value Fixed) (lists news : List (List Entry)) (passed : ℕ)
      → is_taken space code steps w p ≡ true → v ≡ cond (is_taken space code steps w p) (world_after space code w p) w → IsNoted lists news p.thread (step_taken space code steps w p)
      → AreRecorded space code steps (p ∷ []) w v lists news passed passed
  one_recorded p w v lists news passed is moved noted =
      let b = is_taken space code steps w p in
      record {
        world = sym (world_step space code steps w v p [] b refl moved);
        logs = λ t h. noted.logs t h ∙ ap (λ l. list_at lists t ++ l) (sym (entries_step space code steps w v p [] t b refl moved ∙ append-nil _));
        passed = let x : picks_passed space code steps w (p ∷ []) ≡ 0 = ap (λ b. cond b 0 (0 + 1)) is in omega (arith, x);
        len = noted.len;
      }

  -- a pick that is passed over changes nothing, however often it comes
  pub passed_recorded : (p : Pick) (n : ℕ) (w v : WorldAt State Value Fixed) (lists : List (List Entry)) (passed : ℕ)
      → is_taken space code steps w p ≡ false → v ≡ cond (is_taken space code steps w p) (world_after space code w p) w
      → AreRecorded space code steps (replicate n p) w v lists lists passed (passed + n)
  passed_recorded p n w v lists passed over moved =
      let none = none_taken space code steps w p n over in
      let stays : v ≡ w = moved ∙ ap (λ b. cond b (world_after space code w p) w) over in
      record {
        world = stays ∙ ap (world_run space code w) (sym none);
        logs = λ t h. sym (ap (λ ps. list_at lists t ++ entries space code w ps t) none ∙ append-nil (list_at lists t));
        passed = let all = all_passed space code steps w p n over in omega (arith, all);
        len = refl;
      }

  -- a stretch in two parts
  pub stretch_joined : (p : Pick) (m n : ℕ) (w v u : WorldAt State Value Fixed) (one two three : List (List Entry)) (a b c : ℕ)
      → AreRecorded space code steps (replicate m p) w v one two a b → AreRecorded space code steps (replicate n p) v u two three b c → AreRecorded space code steps (replicate (m + n) p) w u one three a c
  stretch_joined p m n w v u one two three a b c r s =
      subst (λ ps. AreRecorded space code steps ps w u one three a c) (stretch_parts m n p) (recorded_joined (replicate m p) (replicate n p) w v u one two three a b c r s)

  -- the stretches of a list, and one more
  pub one_more_stretch : (ss : List Stretch) (d : Stretch) (i : ℕ) (s : Stretch) (w v u : WorldAt State Value Fixed) (one two three : List (List Entry)) (a b c : ℕ) → i < length ss → s ≡ get_or ss i d
      → AreRecorded space code steps (picks_in (take i ss)) w v one two a b → AreRecorded space code steps (replicate s.times s.pick) v u two three b c
      → AreRecorded space code steps (picks_in (take (suc i) ss)) w u one three a c
  one_more_stretch ss d i s w v u one two three a b c l is r more =
      subst (λ ps. AreRecorded space code steps ps w u one three a c) (stretches_more ss d i s l is)
      (recorded_joined (picks_in (take i ss)) (replicate s.times s.pick) w v u one two three a b c r more)

  -- all stretches of a list
  pub all_stretches : (ss : List Stretch) (i : ℕ) (ps : List Pick) (w v : WorldAt State Value Fixed) (lists news : List (List Entry)) (a b : ℕ) → length ss ≤ i → picks_in ss ≡ ps
      → AreRecorded space code steps (picks_in (take i ss)) w v lists news a b → AreRecorded space code steps ps w v lists news a b
  all_stretches ss i ps w v lists news a b past are r = subst (λ qs. AreRecorded space code steps qs w v lists news a b) (ap picks_in (take_all i ss past) ∙ are) r

  -- each thread has a list, as before
  pub still_threads : (ps : List Pick) (w v : WorldAt State Value Fixed) (lists news : List (List Entry)) (a b : ℕ) → AreRecorded space code steps ps w v lists news a b → length lists ≡ length w.threads → length news ≡ length v.threads
  still_threads ps w v lists news a b r h = r.len ∙ h ∙ sym (length_run space code w (picks_taken space code steps w ps)) ∙ ap (λ (x : WorldAt State Value Fixed). length x.threads) (sym r.world)

  pub few_counted : (ps : List Pick) (w v : WorldAt State Value Fixed) (lists news : List (List Entry)) (a b : ℕ) → AreRecorded space code steps ps w v lists news a b → b ≤ a + length ps
  few_counted ps w v lists news a b r = let x = r.passed in let y = few_passed w ps in omega (arith, x, y)
