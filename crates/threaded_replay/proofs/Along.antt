-- A thread that follows a log.
use Rattle.std.proofs.Common.{◌≡◌, ℕ, zero, suc, ◌<◌, ◌≤◌, Bool, true, false, None, [], ◌∷◌, ◌++◌, length, Some, slice_get, refl, sym, ap, ◌∙◌, subst, arith, inl, inr}
use Rattle.std.proofs.lemmas.List.{length-append, length-map, map-append}
use Rattle.wasm_types.specs.declared.sizes.TheConstants.{MOST_STEPS}
use Rattle.rw_objects.specs.declared.entry.Entry.{Entry}
use Rattle.rw_objects.specs.Code.{Code, CodeLaws, TakesReply, NextFits}
use Rattle.rw_objects.specs.Space.{Space, Fits}
use Rattle.rw_objects.specs.declared.next.Next.{Next}
use Rattle.rw_objects.specs.declared.next.Next.TheVariants as next
use Rattle.event_core.specs.declared.pick.Input.{Input}
use Rattle.event_core.specs.declared.pick.Input.TheVariants.{Go, TimeOut}
use Rattle.replay_laws.specs.History.{op_at, IfTimeOut}
use Rattle.replay_laws.specs.Log.{Log}
use Rattle.replay_gate.proofs.Putting.{get_pushed}
use Rattle.replica.specs.Flat.TheVariants.{Known}
use Rattle.replica.specs.End.{End}
use Rattle.shared_core.specs.Calls.{call, entries_in}
use Rattle.workers.specs.Driving.{Driven, IsEntered, Advances}
use Rattle.workers.proofs.Advancing.{advances_if}
use Rattle.threaded_replay.specs.Following.{IsEnteredAt, IsFollowing}

none_there : {A : Type 0} (p : ℕ) (e : A) → slice_get [] p ≡ Some e → ⊥
none_there zero e h = cc
none_there (suc p) e h = cc

module _ {Op Reply Value Fixed : Type 0} (space : Space Op Reply Value Fixed) where
  pub asks_takes : (n : Next Op) (input : Input) (op : Op) → op_at n input ≡ Some op → TakesReply n
  asks_takes next.Local input op e = absurd (cc)
  asks_takes (next.Ask asked) input op e = tt
  asks_takes (next.Asleep resume out) input op e = tt
  asks_takes (next.Halted outcome) input op e = absurd (cc)

  pub asks_fits : (fixed : Fixed) (n : Next Op) (input : Input) (op : Op) → NextFits space fixed n → op_at n input ≡ Some op → Fits space fixed op
  asks_fits fixed next.Local input op f e = absurd (cc)
  asks_fits fixed (next.Ask asked) Go op f e = let same : asked ≡ op = cc in subst (Fits space fixed) same f
  asks_fits fixed (next.Ask asked) TimeOut op f e = absurd (cc)
  asks_fits fixed (next.Asleep resume None) Go op f e = let same : resume ≡ op = cc in subst (Fits space fixed) same f
  asks_fits fixed (next.Asleep resume (Some out)) Go op f e = let same : resume ≡ op = cc in subst (Fits space fixed) same f.0
  asks_fits fixed (next.Asleep resume None) TimeOut op f e = absurd (cc)
  asks_fits fixed (next.Asleep resume (Some out)) TimeOut op f e = let same : out ≡ op = cc in subst (Fits space fixed) same f.1
  asks_fits fixed (next.Halted outcome) input op f e = absurd (cc)

if_time_out : (input : Input) → IfTimeOut input (true ≡ true)
if_time_out Go = tt
if_time_out TimeOut = refl

module _ {State Op Reply Fixed : Type 0} (code : Code State Op Reply Fixed) where
  -- a call at its logged entry is a call
  pub is_entered : (op : Op) (item : Entry) (a b : Driven State Op Reply) → IsEnteredAt code op item a b → IsEntered code op a b
  is_entered op item a b e = record { reply = e.reply; entry = item; state = e.state; places = e.places; thread = e.thread; calls = e.calls }

  module _ (log : Log) (end : End) where
    pub following_first : (a : Driven State Op Reply) → log.end a.seat.thread ≡ Some (Known end) → code.steps a.thread.state ≡ 0 → a.thread.places ≡ 0 → a.seat.calls ≡ [] → IsFollowing code log end a
    following_first a is_known steps places new =
        let none = ap length new in
        record {
          follows = record {
            is_known = is_known;
            entries = λ p e h. absurd (let z = ap (λ cs. slice_get (entries_in cs) p) (sym new) ∙ h in none_there p e z);
            places = omega (arith, none);
            steps = omega (arith, steps);
          };
          place = omega (arith, none, places);
        }

    pub following_locally : (a b : Driven State Op Reply) → b.seat ≡ a.seat → b.thread.places ≡ a.thread.places → code.steps b.thread.state ≤ end.steps → IsFollowing code log end a → IsFollowing code log end b
    following_locally a b s p below f = record {
      follows = record {
        is_known = ap (λ x. log.end x.thread) s ∙ f.follows.is_known;
        entries = λ n e h. ap (λ x. log.entry x.thread n) s ∙ f.follows.entries n e (ap (λ x. slice_get (entries_in x.calls) n) (sym s) ∙ h);
        places = let l = ap (λ x. length x.calls) s in let q = f.follows.places in omega (arith, l, q);
        steps = below;
      };
      place = let l = ap (λ x. length x.calls) s in omega (arith, l, p, f.place);
    }

    pub following_by : (a b : Driven State Op Reply) (op : Op) (item : Entry) → a.thread.places < end.places → code.steps b.thread.state ≤ end.steps → log.entry a.seat.thread a.thread.places ≡ Some (Known item)
        → IsEnteredAt code op item a b → IsFollowing code log end a → IsFollowing code log end b
    following_by a b op item low below is entered f =
        let one = call a.seat.thread op entered.reply item in
        let long = ap length entered.calls ∙ length-append a.seat.calls (one ∷ []) in
        let grown : entries_in b.seat.calls ≡ entries_in a.seat.calls ++ item ∷ [] = ap entries_in entered.calls ∙ map-append (λ c. c.entry) a.seat.calls (one ∷ []) in
        let size : length (entries_in a.seat.calls) ≡ length a.seat.calls = length-map a.seat.calls (λ c. c.entry) in
        record {
          follows = record {
            is_known = ap log.end entered.thread ∙ f.follows.is_known;
            entries = λ n e h. ap (λ x. log.entry x n) entered.thread ∙ elim (get_pushed (entries_in a.seat.calls) item e n (ap (λ xs. slice_get xs n) (sym grown) ∙ h)) [
              | inl q ↦ f.follows.entries n e q
              | inr q ↦ ap (log.entry a.seat.thread) (q.0 ∙ (size ∙ sym f.place)) ∙ (is ∙ ap (λ x. Some (Known x)) (sym q.1))
            ];
            places = omega (arith, long, f.place, low);
            steps = below;
          };
          place = omega (arith, long, f.place, entered.places);
        }

module _ {State Op Reply Value Fixed : Type 0} (space : Space Op Reply Value Fixed) (code : Code State Op Reply Fixed) (rules : CodeLaws space code) (log : Log) (end : End) where
  -- after a try at a gate
  pub following_if : (a b : Driven State Op Reply) (input : Input) (op : Op) (item : Entry) (made : Bool) → op_at (code.next a.thread.state) input ≡ Some op → a.thread.places < end.places → code.steps a.thread.state < end.steps
      → log.entry a.seat.thread a.thread.places ≡ Some (Known item)
      → (made ≡ true → IsEnteredAt code op item a b) → (made ≡ false → b ≡ a) → IsFollowing code log end a → IsFollowing code log end b
  following_if a b input op item true asks low below is entered kept f =
      let e = entered refl in
      let s = ap code.steps e.state ∙ rules.take_steps a.thread.state e.reply (asks_takes space (code.next a.thread.state) input op asks) in
      following_by code log end a b op item low (omega (arith, s, below)) is e f
  following_if a b input op item false asks low below is entered kept f = subst (IsFollowing code log end) (sym (kept refl)) f

  pub advances_at : (a b : Driven State Op Reply) (input : Input) (op : Op) (item : Entry) (made : Bool) → op_at (code.next a.thread.state) input ≡ Some op → code.steps a.thread.state < MOST_STEPS
      → (made ≡ true → IsEnteredAt code op item a b) → (made ≡ false → b ≡ a) → Advances code (λ t s. true) a b
  advances_at a b input op item made asks below entered kept = advances_if space code (λ t s. true) a b input op made asks below (if_time_out input) (λ e. is_entered code op item a b (entered e)) kept
