-- Reading one after the other, as a loop does.
use Rattle.std.proofs.Common.{◌≡◌, ℕ, suc, ◌-◌, ◌+◌, ◌≤◌, ◌<◌, List, [], ◌∷◌, ◌++◌, length, drop, get_or, add-one, drop-cons, Ok, Err, Some, None, true, false, eqb, vec_len, reverse, refl, sym, ap, ◌∙◌, append_assoc, arith}
use Rattle.std.specs.Prelude.{map}
use Rattle.std.specs.List.{AllByRecursion}
use Rattle.std.proofs.Common.{subst}
use Rattle.binary_decoder.specs.Language.{u32}
use Rattle.binary_decoder.proofs.ReadAnswers.{Found, always}
use Rattle.binary_decoder.proofs.ReadLaws.{Counted, u32_exact, items_exact}
use Rattle.wasm_types.specs.declared.instruction.Instr.TheVariants.{BranchTable}
use Rattle.std.specs.Global.{Vec}
use Rattle.std.proofs.Math.ListN.{drop_of_length-le}
use Rattle.std.proofs.lemmas.Bool.{eqb-true, eqb-false}
use Rattle.std.proofs.lemmas.List.{append-nil, length-reverse, nil_from_length}
use Rattle.binary_decoder.specs.Fault.{Malformed, Oversized, Reading, ◌>>=◌}
use Rattle.binary_decoder.specs.Reading.{u32_at, items_at}
use Rattle.binary_decoder.specs.declared.fault.DecodeFault.{DecodeFault}
use Rattle.binary_decoder.specs.declared.fault.DecodeFault.TheVariants.{Refused, TooLarge, NoMemory}
use Rattle.binary_decoder.specs.Moves.{Fails}
use Rattle.wasm_types.specs.Nesting.{nesting_of, opened}
use Rattle.wasm_types.specs.declared.nesting.Enclosing.{Enclosing}
use Rattle.wasm_types.specs.declared.instruction.Instr.{Instr}
use Rattle.wasm_types.specs.declared.modules.FuncType.{FuncType}
use Rattle.wasm_types.specs.declared.modules.LocalGroup.{LocalGroup}
use Rattle.wasm_types.specs.declared.modules.Body.{Body}
use Rattle.wasm_types.specs.Limits.{params_of}
use Rattle.binary_decoder.specs.Reader.{with_front, branch_table_at, instr_at, instrs_at, group_at, groups_at, body_at, bodies_at}

abbrev paired : {X : Type 0} → X → List X × List ℕ → Reading (X × List X)
paired x y = Ok ((x, y.0), y.1)

abbrev consed : {X : Type 0} → (X × List X) × List ℕ → Reading (List X)
consed z = Ok (z.0.0 ∷ z.0.1, z.1)

regroup : {X : Type 0} (front : List X) (x : X) (read : Reading (List X)) → with_front front ((read >>= paired x) >>= consed) ≡ with_front (front ++ x ∷ []) read
regroup {X} front x (Ok y) = ap (λ (xs : List X). Ok (xs, y.1)) (simp append_assoc)
regroup front x (Err f) = refl

-- nothing was read before
pub no_front : {X : Type 0} (read : Reading (List X)) → with_front [] read ≡ read
no_front (Ok y) = refl
no_front (Err f) = refl

-- ---- items

pub goes_on : {X : Type 0} (item : List ℕ → Reading X) (front : List X) (count i : ℕ) (bytes : List ℕ) (x : X) (after : List ℕ) (total : Reading (List X)) → i < count → item bytes ≡ Ok (x, after)
    → with_front front (items_at item (count - i) bytes) ≡ total → with_front (front ++ x ∷ []) (items_at item (count - (i + 1)) after) ≡ total
unfolding items_at
goes_on item front count i bytes x after total lt h so_far =
    let k : count - i ≡ suc (count - (i + 1)) = omega arith in
    let one : with_front front (items_at item (count - i) bytes) ≡ with_front (front ++ x ∷ []) (items_at item (count - (i + 1)) after) = rw (k, h) (regroup front x (items_at item (count - (i + 1)) after)) in
    sym one ∙ so_far

pub ends : {X : Type 0} (item : List ℕ → Reading X) (e : DecodeFault) (front : List X) (count i : ℕ) (bytes : List ℕ) (total : Reading (List X)) → i < count → Fails e (item bytes)
    → with_front front (items_at item (count - i) bytes) ≡ total → Fails e total
unfolding items_at
ends item NoMemory front count i bytes total lt h so_far = tt
ends item (TooLarge limit past place) front count i bytes total lt h so_far =
    let k : count - i ≡ suc (count - (i + 1)) = omega arith in
    let one : with_front front (items_at item (count - i) bytes) ≡ Err Oversized = rw (k, h) refl in
    sym so_far ∙ one
ends item (Refused at place cause) front count i bytes total lt h so_far =
    let k : count - i ≡ suc (count - (i + 1)) = omega arith in
    let one : with_front front (items_at item (count - i) bytes) ≡ Err Malformed = rw (k, h) refl in
    sym so_far ∙ one

pub is_done : {X : Type 0} (item : List ℕ → Reading X) (front : List X) (count i : ℕ) (bytes : List ℕ) (total : Reading (List X)) → count ≤ i → with_front front (items_at item (count - i) bytes) ≡ total → total ≡ Ok (front, bytes)
unfolding items_at
is_done {X} item front count i bytes total le so_far =
    let k : count - i ≡ 0 = omega arith in
    let one : with_front front (items_at item (count - i) bytes) ≡ Ok (front, bytes) = rw k (ap (λ (xs : List X). Ok (xs, bytes)) (append-nil front)) in
    sym so_far ∙ one

-- ---- a branch table

branch_by : (before bytes r1 r2 r3 : List ℕ) (n first default : ℕ) (all : List ℕ) (r : Reading (List ℕ)) → items_at u32_at n r1 ≡ r → with_front before r ≡ Ok (all, r2) → u32_at bytes ≡ Ok (n, r1) → u32_at r2 ≡ Ok (default, r3) → first ≡ length before
    → branch_table_at before bytes ≡ Ok ((BranchTable (record { first = first; count = n }) default, all), r3)
unfolding branch_table_at
branch_by before bytes r1 r2 r3 n first default all (Ok p) items h count after is =
    let found : Found (Counted u32 n) (AllByRecursion always) r1 (Ok p) = subst (Found (Counted u32 n) (AllByRecursion always) r1) items (items_exact u32 always u32_at u32_exact n r1).found in
    let len : length p.0 ≡ n = found.2.0 in
    let k : ◌≡◌ {A = List ℕ × List ℕ} (before ++ p.0, p.1) (all, r2) = cc in
    let same : before ++ p.0 ≡ all = ap (λ (q : List ℕ × List ℕ). q.0) k in
    let behind : p.1 ≡ r2 = ap (λ (q : List ℕ × List ℕ). q.1) k in
    rw (count, items, behind, after, same, len, is) refl
branch_by before bytes r1 r2 r3 n first default all (Err e) items h count after is = absurd cc

pub branch_read : (before bytes r1 r2 r3 : List ℕ) (n first default : ℕ) (all : List ℕ) → with_front before (items_at u32_at n r1) ≡ Ok (all, r2) → u32_at bytes ≡ Ok (n, r1) → u32_at r2 ≡ Ok (default, r3) → first ≡ length before
    → branch_table_at before bytes ≡ Ok ((BranchTable (record { first = first; count = n }) default, all), r3)
branch_read before bytes r1 r2 r3 n first default all h count after is = branch_by before bytes r1 r2 r3 n first default all (items_at u32_at n r1) refl h count after is

-- ---- instructions, while a block is open

abbrev pub with_instrs : List Instr → Reading (List Instr × List ℕ) → Reading (List Instr × List ℕ)
with_instrs front read = read >>= λ x. Ok ((front ++ x.0.0, x.0.1), x.1)

abbrev instrs_read : List Instr → List ℕ → List ℕ → Reading (List Instr × List ℕ)
instrs_read is labels rest = Ok ((is, labels), rest)

abbrev behind_instr : Instr × List ℕ → (List Instr × List ℕ) × List ℕ → Reading ((Instr × List ℕ) × (List Instr × List ℕ))
behind_instr i y = Ok ((i, y.0), y.1)

abbrev consed_instr : ((Instr × List ℕ) × (List Instr × List ℕ)) × List ℕ → Reading (List Instr × List ℕ)
consed_instr p = Ok ((p.0.0.0 ∷ p.0.1.0, p.0.1.1), p.1)

regroup_instr : (front : List Instr) (i : Instr × List ℕ) (read : Reading (List Instr × List ℕ)) → with_instrs front ((read >>= behind_instr i) >>= consed_instr) ≡ with_instrs (front ++ i.0 ∷ []) read
regroup_instr front i (Ok y) = ap (λ (xs : List Instr). instrs_read xs y.0.1 y.1) (simp append_assoc)
regroup_instr front i (Err f) = refl

one_step : (front : List Instr) (labels : List ℕ) (blocks : List Enclosing) (bytes : List ℕ) (n : ℕ) (i : Instr) (more : List ℕ) (after : List ℕ) (next : List Enclosing) → 0 < length blocks → instr_at labels bytes ≡ Ok ((i, more), after) → opened (nesting_of i) blocks ≡ Some next
    → with_instrs front (instrs_at (suc n) labels blocks bytes) ≡ with_instrs (front ++ i ∷ []) (instrs_at n more next after)
unfolding instrs_at
one_step front labels [] bytes n i more after next full h step = absurd (omega arith)
one_step front labels (o ∷ blocks) bytes n i more after next full h step = rw (h, step) (regroup_instr front (i, more) (instrs_at n more next after))

bad_step : (front : List Instr) (labels : List ℕ) (blocks : List Enclosing) (bytes : List ℕ) (n : ℕ) (i : Instr) (more : List ℕ) (after : List ℕ) → 0 < length blocks → instr_at labels bytes ≡ Ok ((i, more), after) → opened (nesting_of i) blocks ≡ None
    → with_instrs front (instrs_at (suc n) labels blocks bytes) ≡ Err Malformed
unfolding instrs_at
bad_step front labels [] bytes n i more after full h step = absurd (omega arith)
bad_step front labels (o ∷ blocks) bytes n i more after full h step = rw (h, step) refl

fail_step : (e : DecodeFault) (front : List Instr) (labels : List ℕ) (blocks : List Enclosing) (bytes : List ℕ) (n : ℕ) → 0 < length blocks → Fails e (instr_at labels bytes) → (total : Reading (List Instr × List ℕ)) → with_instrs front (instrs_at (suc n) labels blocks bytes) ≡ total → Fails e total
unfolding instrs_at
fail_step e front labels [] bytes n full h total so_far = absurd (omega arith)
fail_step NoMemory front labels (o ∷ blocks) bytes n full h total so_far = tt
fail_step (TooLarge limit count place) front labels (o ∷ blocks) bytes n full h total so_far = sym so_far ∙ rw h refl
fail_step (Refused at place cause) front labels (o ∷ blocks) bytes n full h total so_far = sym so_far ∙ rw h refl

done_step : (front : List Instr) (labels : List ℕ) (n : ℕ) (bytes : List ℕ) → with_instrs front (instrs_at n labels [] bytes) ≡ Ok ((front, labels), bytes)
unfolding instrs_at
done_step front labels n bytes = ap (λ (xs : List Instr). instrs_read xs labels bytes) (append-nil front)

out_step : (front : List Instr) (labels : List ℕ) (blocks : List Enclosing) (bytes : List ℕ) → 0 < length blocks → with_instrs front (instrs_at 0 labels blocks bytes) ≡ Err Malformed
unfolding instrs_at
out_step front labels [] bytes full = absurd (omega arith)
out_step front labels (o ∷ blocks) bytes full = refl

module _ (front : List Instr) (labels : List ℕ) (len i : ℕ) (blocks : List Enclosing) (bytes : List ℕ) (total : Reading (List Instr × List ℕ)) (so_far : with_instrs front (instrs_at (len - i) labels blocks bytes) ≡ total) where
  pub instrs_go_on : (x : Instr) (more : List ℕ) (after : List ℕ) (next : List Enclosing) → i < len → 0 < length blocks → instr_at labels bytes ≡ Ok ((x, more), after) → opened (nesting_of x) blocks ≡ Some next
      → with_instrs (front ++ x ∷ []) (instrs_at (len - (i + 1)) more next after) ≡ total
  instrs_go_on x more after next lt full h step =
      let k : len - i ≡ suc (len - (i + 1)) = omega arith in
      sym (ap (λ (n : ℕ). with_instrs front (instrs_at n labels blocks bytes)) k ∙ one_step front labels blocks bytes (len - (i + 1)) x more after next full h step) ∙ so_far

  pub instrs_bad : (x : Instr) (more : List ℕ) (after : List ℕ) → i < len → 0 < length blocks → instr_at labels bytes ≡ Ok ((x, more), after) → opened (nesting_of x) blocks ≡ None → total ≡ Err Malformed
  instrs_bad x more after lt full h step =
      let k : len - i ≡ suc (len - (i + 1)) = omega arith in
      sym so_far ∙ ap (λ (n : ℕ). with_instrs front (instrs_at n labels blocks bytes)) k ∙ bad_step front labels blocks bytes (len - (i + 1)) x more after full h step

  pub instrs_fail : (e : DecodeFault) → i < len → 0 < length blocks → Fails e (instr_at labels bytes) → Fails e total
  instrs_fail e lt full h =
      let k : len - i ≡ suc (len - (i + 1)) = omega arith in
      fail_step e front labels blocks bytes (len - (i + 1)) full h total (sym (ap (λ (n : ℕ). with_instrs front (instrs_at n labels blocks bytes)) k) ∙ so_far)

  pub instrs_done : length blocks ≡ 0 → total ≡ Ok ((front, labels), bytes)
  instrs_done none = sym so_far ∙ ap (λ (b : List Enclosing). with_instrs front (instrs_at (len - i) labels b bytes)) (nil_from_length blocks none) ∙ done_step front labels (len - i) bytes

  pub instrs_out : len ≤ i → 0 < length blocks → total ≡ Err Malformed
  instrs_out le full =
      let k : len - i ≡ 0 = omega arith in
      sym so_far ∙ ap (λ (n : ℕ). with_instrs front (instrs_at n labels blocks bytes)) k ∙ out_step front labels blocks bytes full

pub none_when : (v : Vec Enclosing) → true ≡ eqb (vec_len v) 0 → length (reverse v.items) ≡ 0
none_when v e = let k : vec_len v ≡ 0 = eqb-true _ _ (sym e) in omega (arith, length-reverse v.items, v.ok.0)

pub full_when : (v : Vec Enclosing) → false ≡ eqb (vec_len v) 0 → 0 < length (reverse v.items)
full_when v e = let k : vec_len v ≡ 0 → ⊥ = eqb-false _ _ (sym e) in omega (arith, length-reverse v.items, v.ok.0)

-- ---- groups of locals

group_fails : (e : DecodeFault) (front : List LocalGroup) (used n : ℕ) (bytes : List ℕ) (total : Reading (List LocalGroup)) → with_front front (groups_at true used (suc n) bytes) ≡ total → Fails e (group_at true used bytes) → Fails e total
unfolding groups_at
group_fails NoMemory front used n bytes total so_far h = tt
group_fails (TooLarge limit count place) front used n bytes total so_far h = sym so_far ∙ rw h refl
group_fails (Refused at place cause) front used n bytes total so_far h = sym so_far ∙ rw h refl

module _ (front : List LocalGroup) (used len i : ℕ) (bytes : List ℕ) (total : Reading (List LocalGroup)) (so_far : with_front front (groups_at true used (len - i) bytes) ≡ total) where
  pub groups_go_on : (g : LocalGroup) (after : List ℕ) → i < len → group_at true used bytes ≡ Ok (g, after) → with_front (front ++ g ∷ []) (groups_at true (used + g.count) (len - (i + 1)) after) ≡ total
  unfolding groups_at
  groups_go_on g after lt h =
      let k : len - i ≡ suc (len - (i + 1)) = omega arith in
      let one : with_front front (groups_at true used (suc (len - (i + 1))) bytes) ≡ with_front (front ++ g ∷ []) (groups_at true (used + g.count) (len - (i + 1)) after) = rw h (regroup front g (groups_at true (used + g.count) (len - (i + 1)) after)) in
      sym one ∙ sym (ap (λ (n : ℕ). with_front front (groups_at true used n bytes)) k) ∙ so_far

  pub groups_fail : (e : DecodeFault) → i < len → Fails e (group_at true used bytes) → Fails e total
  groups_fail e lt h =
      let k : len - i ≡ suc (len - (i + 1)) = omega arith in
      group_fails e front used (len - (i + 1)) bytes total (sym (ap (λ (n : ℕ). with_front front (groups_at true used n bytes)) k) ∙ so_far) h

  pub groups_done : len ≤ i → total ≡ Ok (front, bytes)
  unfolding groups_at
  groups_done le =
      let k : len - i ≡ 0 = omega arith in
      sym so_far ∙ ap (λ (n : ℕ). with_front front (groups_at true used n bytes)) k ∙ ap (λ (xs : List LocalGroup). Ok (xs, bytes)) (append-nil front)

-- ---- bodies

next_of : (fs : List ℕ) (i f : ℕ) → i < length fs → f ≡ get_or fs i 0 → drop i fs ≡ f ∷ drop (i + 1) fs
next_of fs i f lt is = rw (add-one, drop-cons fs i 0) (ap (λ (x : ℕ). x ∷ drop (suc i) fs) (sym is))

body_fails : (e : DecodeFault) (front : List Body) (params : ℕ) (others : List ℕ) (bytes : List ℕ) (total : Reading (List Body)) → with_front front (bodies_at true (params ∷ others) bytes) ≡ total → Fails e (body_at true params bytes) → Fails e total
unfolding bodies_at
body_fails NoMemory front params others bytes total so_far h = tt
body_fails (TooLarge limit count place) front params others bytes total so_far h = sym so_far ∙ rw h refl
body_fails (Refused at place cause) front params others bytes total so_far h = sym so_far ∙ rw h refl

module _ (types : List FuncType) (functions : List ℕ) (front : List Body) (i : ℕ) (bytes : List ℕ) (total : Reading (List Body)) (so_far : with_front front (bodies_at true (map (params_of types) (drop i functions)) bytes) ≡ total) where
  pub bodies_go_on : (f : ℕ) (b : Body) (after : List ℕ) → i < length functions → f ≡ get_or functions i 0 → body_at true (params_of types f) bytes ≡ Ok (b, after) → with_front (front ++ b ∷ []) (bodies_at true (map (params_of types) (drop (i + 1) functions)) after) ≡ total
  unfolding bodies_at
  bodies_go_on f b after lt is h =
      let k : drop i functions ≡ f ∷ drop (i + 1) functions = next_of functions i f lt is in
      let one : with_front front (bodies_at true (params_of types f ∷ map (params_of types) (drop (i + 1) functions)) bytes) ≡ with_front (front ++ b ∷ []) (bodies_at true (map (params_of types) (drop (i + 1) functions)) after) = rw h (regroup front b (bodies_at true (map (params_of types) (drop (i + 1) functions)) after)) in
      sym one ∙ sym (ap (λ (fs : List ℕ). with_front front (bodies_at true (map (params_of types) fs) bytes)) k) ∙ so_far

  pub bodies_fail : (f : ℕ) (e : DecodeFault) → i < length functions → f ≡ get_or functions i 0 → Fails e (body_at true (params_of types f) bytes) → Fails e total
  bodies_fail f e lt is h =
      let k : drop i functions ≡ f ∷ drop (i + 1) functions = next_of functions i f lt is in
      body_fails e front (params_of types f) (map (params_of types) (drop (i + 1) functions)) bytes total (sym (ap (λ (fs : List ℕ). with_front front (bodies_at true (map (params_of types) fs) bytes)) k) ∙ so_far) h

  pub bodies_done : length functions ≤ i → total ≡ Ok (front, bytes)
  unfolding bodies_at
  bodies_done le =
      sym so_far ∙ ap (λ (fs : List ℕ). with_front front (bodies_at true (map (params_of types) fs) bytes)) (drop_of_length-le functions le) ∙ ap (λ (xs : List Body). Ok (xs, bytes)) (append-nil front)
