-- Threads over objects, as a pure machine.
use Rattle.wasm_types.specs.declared.outcome.Outcome.{Outcome}
use Rattle.std.specs.Prelude.{◌≡◌, ◌≢◌, ℕ, ◌==◌, Bool, List, [], ◌∷◌, Option, cond}

-- how an op meets an object
pub data Touch : Type 0 where
  ReadOf : (object : ℕ) → Touch
  WriteOf : (object : ℕ) → Touch

pub data Mode : Type 0 where
  Absent : Mode
  Reading : Mode
  Writing : Mode

abbrev pub stronger : Mode → Mode → Mode
stronger Absent m = m
stronger Writing m = Writing
stronger Reading Absent = Reading
stronger Reading Reading = Reading
stronger Reading Writing = Writing

-- how a list of touches meets object x
abbrev pub mode : List Touch → ℕ → Mode
mode [] x = Absent
mode (ReadOf o ∷ ts) x = stronger (cond (o == x) Reading Absent) (mode ts x)
mode (WriteOf o ∷ ts) x = stronger (cond (o == x) Writing Absent) (mode ts x)

-- what a thread does next: a local step, an op, sleep (the op of going on, the op of timing out), or nothing
pub data Next (O R S : Type 0) : Type 0 where
  Local : (after : S) → Next O R S
  Ask : (op : O) (after : R → S) → Next O R S
  Asleep : (resume : O) (out : Option O) (after : R → S) → Next O R S
  Halted : (outcome : Outcome) → Next O R S

-- values, ops, replies, thread states and outcomes
pub record System (V O R S : Type 0) : Type 0 where
  pub threads : ℕ
  pub limit : ℕ
  pub next : S → Next O R S
  pub outcome : S → Outcome
  pub touches : O → List Touch
  pub ready : O → (ℕ → V) → Bool
  pub reply : O → (ℕ → V) → R
  pub change : O → (ℕ → V) → ℕ → V

-- the touched objects alone decide
pub record IsNear {V O R S : Type 0} (sys : System V O R S) : Type 0 where
  pub near_ready : (op : O) (m u : ℕ → V) → ((x : ℕ) → mode (sys.touches op) x ≢ Absent → m x ≡ u x) → sys.ready op m ≡ sys.ready op u
  pub near_reply : (op : O) (m u : ℕ → V) → ((x : ℕ) → mode (sys.touches op) x ≢ Absent → m x ≡ u x) → sys.reply op m ≡ sys.reply op u
  pub near_change : (op : O) (m u : ℕ → V) → ((x : ℕ) → mode (sys.touches op) x ≢ Absent → m x ≡ u x) → (x : ℕ) → mode (sys.touches op) x ≡ Writing → sys.change op m x ≡ sys.change op u x
