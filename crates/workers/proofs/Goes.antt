-- Own steps of a thread, one after another.
use Rattle.std.proofs.Common.{◌≡◌, ℕ, zero, suc, ◌<◌, Bool, true, List, [], ◌∷◌, ◌++◌, Some, refl, sym, ap, ◌∙◌, subst, append_assoc}
use Rattle.std.proofs.lemmas.List.{append-nil, map-append}
use Rattle.wasm_types.specs.declared.sizes.TheConstants.{MOST_STEPS}
use Rattle.rw_objects.specs.declared.entry.Entry.{Entry}
use Rattle.rw_objects.specs.Code.{Code}
use Rattle.rw_objects.specs.LocalRun.{GoesLocally}
use Rattle.event_core.specs.declared.pick.Input.{Input}
use Rattle.replay_laws.specs.History.{OwnStep, OwnLocal, OwnCall, op_at, Leads, calls_in, IfTimeOut, TimesOut}
use Rattle.replay_laws.specs.History as history
use Rattle.shared_parts.specs.declared.call.Call.{Call}
use Rattle.shared_parts.specs.Calls.{call}
use Rattle.workers.specs.Driving.{asked, all_asked, Went}

-- so many local steps
abbrev locals : {Op Reply : Type 0} → ℕ → List (OwnStep Op Reply)
locals zero = []
locals (suc n) = OwnLocal ∷ locals n

own_joined : {Op Reply : Type 0} (t : ℕ) (ds es : List (OwnStep Op Reply)) → calls_in t (ds ++ es) ≡ calls_in t ds ++ calls_in t es
own_joined t [] es = refl
own_joined t (OwnLocal ∷ ds) es = own_joined t ds es
own_joined t (OwnCall input op reply ∷ ds) es = ap (λ l. record { thread = t; op = op; reply = reply } ∷ l) (own_joined t ds es)

no_local_calls : {Op Reply : Type 0} (t n : ℕ) → calls_in {Op = Op} {Reply = Reply} t (locals n) ≡ []
no_local_calls t zero = refl
no_local_calls {Op = Op} {Reply = Reply} t (suc n) = no_local_calls {Op = Op} {Reply = Reply} t n

module _ {State Op Reply Fixed : Type 0} (code : Code State Op Reply Fixed) where
  leads_joined : (s u v : State) (ds es : List (OwnStep Op Reply)) → Leads code s ds u → Leads code u es v → Leads code s (ds ++ es) v
  leads_joined s u v [] es l k = subst (λ x. Leads code x es v) (sym l) k
  leads_joined s u v (OwnLocal ∷ ds) es l k = (l.0, l.1, leads_joined (code.local s) u v ds es l.2 k)
  leads_joined s u v (OwnCall input op reply ∷ ds) es l k = (l.0, l.1, leads_joined (code.take s reply) u v ds es l.2 k)

  leads_locally : (n : ℕ) (s u : State) → GoesLocally code n s u → Leads code s (locals {Op = Op} {Reply = Reply} n) u
  leads_locally zero s u g = g
  leads_locally (suc n) s u g = (g.0, g.1, leads_locally n (code.local s) u g.2)

  module _ (may : State → Bool) where
    times_joined : (s u : State) (ds es : List (OwnStep Op Reply)) → Leads code s ds u → TimesOut code may s ds → TimesOut code may u es → TimesOut code may s (ds ++ es)
    times_joined s u [] es l m k = subst (λ x. TimesOut code may x es) (sym l) k
    times_joined s u (OwnLocal ∷ ds) es l m k = times_joined (code.local s) u ds es l.2 m k
    times_joined s u (OwnCall input op reply ∷ ds) es l m k = (m.0, times_joined (code.take s reply) u ds es l.2 m.1 k)

    times_local : (s : State) (n : ℕ) → TimesOut code may s (locals {Op = Op} {Reply = Reply} n)
    times_local s zero = tt
    times_local s (suc n) = times_local (code.local s) n

    pub went_on : (t : ℕ) (s u v : State) (a b c : List (Call Op Reply)) → Went code may t s a u b → Went code may t u b v c → Went code may t s a v c
    went_on t s u v a b c x y = record {
      own = x.own ++ y.own;
      leads = leads_joined s u v x.own y.own x.leads y.leads;
      calls = y.calls ∙ (ap (λ l. l ++ calls_in t y.own) x.calls ∙ (append_assoc (all_asked a) (calls_in t x.own) (calls_in t y.own) ∙ ap (λ l. all_asked a ++ l) (sym (own_joined t x.own y.own))));
      times = times_joined s u x.own y.own x.leads x.times y.times;
    }

    -- nothing was done
    pub went_nowhere : (t : ℕ) (s u : State) (a b : List (Call Op Reply)) → u ≡ s → b ≡ a → Went code may t s a u b
    went_nowhere t s u a b e same = record { own = []; leads = sym e; calls = ap all_asked same ∙ sym (append-nil (all_asked a)); times = tt }

    -- local steps
    pub went_locally : (t n : ℕ) (s u : State) (a b : List (Call Op Reply)) → GoesLocally code n s u → b ≡ a → Went code may t s a u b
    went_locally t n s u a b l same = record {
      own = locals n;
      leads = leads_locally n s u l;
      calls = ap all_asked same ∙ (sym (append-nil (all_asked a)) ∙ ap (λ l. all_asked a ++ l) (sym (no_local_calls {Op = Op} {Reply = Reply} t n)));
      times = times_local s n;
    }

    -- a call
    pub went_by : (t : ℕ) (s u : State) (a b : List (Call Op Reply)) (input : Input) (op : Op) (reply : Reply) (entry : Entry)
        → op_at (code.next s) input ≡ Some op → code.steps s < MOST_STEPS → IfTimeOut input (may s ≡ true) → u ≡ code.take s reply → b ≡ a ++ call t op reply entry ∷ [] → Went code may t s a u b
    went_by t s u a b input op reply entry asks below time e same = record {
      own = OwnCall input op reply ∷ [];
      leads = (asks, below, sym e);
      calls = ap all_asked same ∙ map-append asked a (call t op reply entry ∷ []);
      times = (time, tt);
    }
