-- What a call that is entered does to the journal.
use Rattle.std.proofs.Common.{◌≡◌, ℕ, ◌+◌, ◌≤◌, Bool, true, false, cond, List, [], ◌∷◌, ◌++◌, Option, None, Some, refl, sym, ap, ◌∙◌, subst, arith}
use Rattle.rw_objects.specs.declared.touch.Touch.{Touch}
use Rattle.rw_objects.specs.declared.touch.Mode.{Mode}
use Rattle.rw_objects.specs.declared.touch.Mode.TheVariants.{Read, Write}
use Rattle.rw_objects.specs.declared.count.Count.{Count}
use Rattle.rw_objects.specs.Space.{Space, Fits, mode_at, is_written, is_ready, reply_of, values_after, effect_at}
use Rattle.rw_objects.specs.Counts.{count_after_if, counts_after}
use Rattle.rw_objects.specs.Memory.{Memory, memory_after, memory_with, entry_of}
use Rattle.shared_parts.specs.Cut.{Cut, CutLaws, AllSound}
use Rattle.shared_parts.specs.declared.call.Call.{Call}
use Rattle.shared_parts.specs.Calls.{IsLegalHistory, memory_after_calls, entries_in, threads_in}

few_if : (o : Option Mode) (c : Count) (n : ℕ) → c.version ≤ n → c.reads ≤ n → ((count_after_if o c).version ≤ n + 1) × ((count_after_if o c).reads ≤ n + 1)
few_if None c n v r = (omega (arith, v), omega (arith, r))
few_if (Some Read) c n v r = (omega (arith, v), omega (arith, r))
few_if (Some Write) c n v r = (omega (arith, v), omega (arith, r))

-- a call more makes each count one greater at most
pub few_after : (ts : List Touch) (counts : ℕ → Count) (n : ℕ) → ((o : ℕ) → (counts o).version ≤ n) → ((o : ℕ) → (counts o).reads ≤ n)
    → (o : ℕ) → ((counts_after ts counts o).version ≤ n + 1) × ((counts_after ts counts o).reads ≤ n + 1)
few_after ts counts n v r o = few_if (mode_at ts o) (counts o) n (v o) (r o)

pub entries-push : {Op Reply : Type 0} (cs : List (Call Op Reply)) (c : Call Op Reply) → entries_in (cs ++ c ∷ []) ≡ entries_in cs ++ c.entry ∷ []
entries-push [] c = refl
entries-push (x ∷ cs) c = ap (λ l. x.entry ∷ l) (entries-push cs c)

pub threads-push : {Op Reply : Type 0} (cs : List (Call Op Reply)) (c : Call Op Reply) → threads_in (cs ++ c ∷ []) ≡ threads_in cs ++ c.thread ∷ []
threads-push [] c = refl
threads-push (x ∷ cs) c = ap (λ l. x.thread ∷ l) (threads-push cs c)

module _ {Op Reply Value Fixed : Type 0} (space : Space Op Reply Value Fixed) where
  legal_push : (m : Memory Value Fixed) (cs : List (Call Op Reply)) (c : Call Op Reply) → IsLegalHistory space m cs
      → is_ready space (memory_after_calls space m cs).fixed (memory_after_calls space m cs).values c.op ≡ true
      → c.reply ≡ reply_of space (memory_after_calls space m cs).fixed (memory_after_calls space m cs).values c.op
      → c.entry ≡ entry_of space (memory_after_calls space m cs) c.op → IsLegalHistory space m (cs ++ c ∷ [])
  legal_push m [] c legal ready reply entry = (ready, reply, entry, tt)
  legal_push m (x ∷ cs) c legal ready reply entry = (legal.0, legal.1, legal.2, legal_push (memory_after space m x.op) cs c legal.3 ready reply entry)

  -- a call more is legal where it is ready and answered and noted as it has to be
  pub legal_with : (m : Memory Value Fixed) (cs all : List (Call Op Reply)) (c : Call Op Reply) (fixed : Fixed) → (memory_after_calls space m cs).fixed ≡ fixed → all ≡ cs ++ c ∷ [] → IsLegalHistory space m cs
      → is_ready space fixed (memory_after_calls space m cs).values c.op ≡ true
      → c.reply ≡ reply_of space fixed (memory_after_calls space m cs).values c.op
      → c.entry ≡ entry_of space (memory_after_calls space m cs) c.op → IsLegalHistory space m all
  legal_with m cs all c fixed at grown legal ready reply entry =
      subst (IsLegalHistory space m) (sym grown) (legal_push m cs c legal
      (ap (λ f. is_ready space f (memory_after_calls space m cs).values c.op) at ∙ ready)
      (reply ∙ ap (λ f. reply_of space f (memory_after_calls space m cs).values c.op) (sym at)) entry)

module _ {Op Reply Value Fixed Seen Decision : Type 0} (space : Space Op Reply Value Fixed) (cut : Cut Op Reply Value Fixed Seen Decision) (laws : CutLaws space cut) where
  sound_if : (fixed : Fixed) (o : ℕ) (b : Bool) (x v : Value) → (b ≡ true → cut.sound fixed o x) → cut.sound fixed o v → cut.sound fixed o (cond b x v)
  sound_if fixed o true x v new old = new refl
  sound_if fixed o false x v new old = old

  -- an operation leaves values that objects can have
  pub sound_after : (fixed : Fixed) (values : ℕ → Value) (op : Op) → Fits space fixed op → AllSound cut fixed values → AllSound cut fixed (values_after space fixed values op)
  sound_after fixed values op fits sound o =
      sound_if fixed o (is_written (mode_at (space.touches op) o)) ((effect_at space fixed values op).written o) (values o) (laws.keeps fixed op values o fits sound) (sound o)

pub memory_is : {Value Fixed : Type 0} (m : Memory Value Fixed) (f : Fixed) (v : ℕ → Value) (k : ℕ → Count) → f ≡ m.fixed → v ≡ m.values → k ≡ m.counts → memory_with f v k ≡ m
memory_is m f v k a b c = λ i. record { fixed = a i; values = b i; counts = c i }
