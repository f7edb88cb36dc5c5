-- Of seats that have the calls of their threads.
use Rattle.std.proofs.Common.{◌≡◌, ◌⊎◌, ℕ, ◌+◌, List, [], ◌∷◌, length, map, refl, sym, ap, ◌∙◌, subst, arith, inl, inr}
use Rattle.std.specs.List.{All, AllZip}
use Rattle.std.proofs.lemmas.List.Elements.{All-nil, All-cons, All-head, All-tail}
use Rattle.shared_parts.specs.declared.call.Call.{Call}
use Rattle.shared_parts.specs.Calls.{Part, part_of, entries_in, IsNumbered, AreNew, AreParts}
use Rattle.workers.specs.Jobs.{IsWorked}
use Rattle.workers.specs.Ran.{entries_by, AllLead}

pub all_of_map : {A B : Type 0} (P : B → Type 0) (f : A → B) (xs : List A) → All P (map f xs) → All (λ x. P (f x)) xs
all_of_map P f [] h = All-nil (λ x. P (f x))
all_of_map P f (x ∷ xs) h = All-cons (λ x. P (f x)) x xs (All-head P (f x) (map f xs) h) (all_of_map P f xs (All-tail P (f x) (map f xs) h))

module _ {Op Reply State : Type 0} where
  -- the entries of the seats are those of the threads
  pub entries_of_seats : (b : ℕ) (all : List (Call Op Reply)) (seats : List (Part Op Reply)) (states : List State) → length seats ≡ length states
      → IsNumbered b seats → AreParts all seats → map (λ s. entries_in s.calls) seats ≡ entries_by b all states
  entries_of_seats b all [] [] n num parts = refl
  entries_of_seats b all [] (t ∷ ts) n num parts = absurd (omega (arith, n))
  entries_of_seats b all (s ∷ ss) [] n num parts = absurd (omega (arith, n))
  entries_of_seats b all (s ∷ ss) (t ∷ ts) n num parts =
      let here : entries_in s.calls ≡ entries_in (part_of b all) = ap entries_in (sym parts.0) ∙ ap (λ k. entries_in (part_of k all)) num.0 in
      ap (λ e. e ∷ map (λ s. entries_in s.calls) ss) here ∙ ap (λ l. entries_in (part_of b all) ∷ l) (entries_of_seats (b + 1) all ss ts (omega (arith, n)) num.1 parts.1)

  module _ {Job : Type 0} (seat : Job → Part Op Reply) (state : Job → State) where
    -- no seat of a job has calls
    pub all_new : (js : List Job) → AreNew (map seat js) → All (λ j. (seat j).calls ≡ []) js
    all_new [] n = All-nil (λ j. (seat j).calls ≡ [])
    all_new (j ∷ js) n = All-cons (λ j. (seat j).calls ≡ []) j js n.0 (all_new js n.1)

    -- the seat stays as it was, and the empty list of calls leads to what the thread has then
    abbrev pub IsLeftOut : (leads : ℕ → State → List (Call Op Reply) → State → Type 0) → Job → Job → Type 0
    IsLeftOut leads j k = (seat k ≡ seat j) × leads (seat j).thread (state j) [] (state k)

    -- the calls that a seat has lead to what its thread has then, also where it is left out, since it then has none
    pub one_worked : (leads : ℕ → State → List (Call Op Reply) → State → Type 0) (j k : Job) → IsWorked leads (seat j) (state j) (seat k) (state k) ⊎ IsLeftOut leads j k
        → (seat j).calls ≡ [] → IsWorked leads (seat j) (state j) (seat k) (state k)
    one_worked leads j k (inl worked) new = worked
    one_worked leads j k (inr left) new = record {
      thread = ap (λ s. s.thread) left.0;
      led = subst (λ cs. leads (seat j).thread (state j) cs (state k)) (sym (ap (λ s. s.calls) left.0 ∙ new)) left.1;
    }

    pub all_worked : (leads : ℕ → State → List (Call Op Reply) → State → Type 0) (js ks : List Job)
        → AllZip (λ j k. IsWorked leads (seat j) (state j) (seat k) (state k) ⊎ IsLeftOut leads j k) js ks → All (λ j. (seat j).calls ≡ []) js
        → AllZip (λ j k. IsWorked leads (seat j) (state j) (seat k) (state k)) js ks
    all_worked leads [] [] z new = tt
    all_worked leads [] (k ∷ ks) z new = absurd z
    all_worked leads (j ∷ js) [] z new = absurd z
    all_worked leads (j ∷ js) (k ∷ ks) z new =
        (one_worked leads j k z.0 (All-head (λ j. (seat j).calls ≡ []) j js new), all_worked leads js ks z.1 (All-tail (λ j. (seat j).calls ≡ []) j js new))

    pub same_numbers : (leads : ℕ → State → List (Call Op Reply) → State → Type 0) (b : ℕ) (js ks : List Job) → AllZip (λ j k. IsWorked leads (seat j) (state j) (seat k) (state k)) js ks
        → IsNumbered b (map seat js) → IsNumbered b (map seat ks)
    same_numbers leads b [] [] z n = tt
    same_numbers leads b [] (k ∷ ks) z n = absurd z
    same_numbers leads b (j ∷ js) [] z n = absurd z
    same_numbers leads b (j ∷ js) (k ∷ ks) z n = (z.0.thread ∙ n.0, same_numbers leads (b + 1) js ks z.1 n.1)

    pub same_length : (leads : ℕ → State → List (Call Op Reply) → State → Type 0) (js ks : List Job) → AllZip (λ j k. IsWorked leads (seat j) (state j) (seat k) (state k)) js ks
        → length (map seat ks) ≡ length (map seat js)
    same_length leads [] [] z = refl
    same_length leads [] (k ∷ ks) z = absurd z
    same_length leads (j ∷ js) [] z = absurd z
    same_length leads (j ∷ js) (k ∷ ks) z = omega (arith, same_length leads js ks z.1)

    -- the calls of each thread lead to what it has then
    pub all_lead : (leads : ℕ → State → List (Call Op Reply) → State → Type 0) (b : ℕ) (all : List (Call Op Reply)) (js ks : List Job) → AllZip (λ j k. IsWorked leads (seat j) (state j) (seat k) (state k)) js ks
        → IsNumbered b (map seat ks) → AreParts all (map seat ks) → AllLead leads b all (map state js) (map state ks)
    all_lead leads b all [] [] z n p = tt
    all_lead leads b all [] (k ∷ ks) z n p = absurd z
    all_lead leads b all (j ∷ js) [] z n p = absurd z
    all_lead leads b all (j ∷ js) (k ∷ ks) z n p =
        (subst (λ t. leads t (state j) (part_of b all) (state k)) (sym z.0.thread ∙ n.0) (subst (λ cs. leads (seat j).thread (state j) cs (state k)) (sym p.0 ∙ ap (λ t. part_of t all) n.0) z.0.led), all_lead leads (b + 1) all js ks z.1 n.1 p.1)
