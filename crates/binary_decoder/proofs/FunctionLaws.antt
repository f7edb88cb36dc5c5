-- Readers of functions' bodies answer by their grammar, within the limit.
use Rattle.std.proofs.Common.{◌≡◌, ℕ, zero, suc, ◌+◌, ◌≤◌, Bool, true, false, cond, ltb, eqb, ◌&&◌, List, [], ◌∷◌, ◌++◌, length, Ok, Err, refl, sym, ap, subst, ◌∙◌, arith}
use Rattle.std.proofs.lemmas.Bool.{eqb-true, eqb-false, ltb-true, ltb-false}
use Rattle.std.proofs.lemmas.List.{length-append, length-replicate}
use Rattle.binary_decoder.specs.Language.{Language, ◌⨾◌, each, u32, vector}
use Rattle.binary_decoder.specs.Fault.{Malformed, Oversized}
use Rattle.binary_decoder.specs.Reading.{u32_at, then_at, limited_at, sized_at}
use Rattle.binary_decoder.proofs.ReadAnswers.{Answers, Exact, always}
use Rattle.binary_decoder.proofs.ReadLaws.{Counted, then_both, then_exact, as_exact, as_by, u32_exact, Keeps, limited_exact, sized_exact, alike, shrinks}
use Rattle.std.proofs.lemmas.List.Concat.{flat_map-cons}
use Rattle.binary_decoder.specs.Grammar.{val_type, expr, group, locals, body}
use Rattle.wasm_types.specs.Limits.{Fit}
use Rattle.binary_decoder.specs.Reader.{val_type_at, expr_at, group_at, groups_at, locals_at, inside_at, body_at, bodies_at, code_at}
use Rattle.binary_decoder.proofs.PartLaws.{val_type_exact}
use Rattle.binary_decoder.proofs.InstrLaws.{expr_exact}
use Rattle.wasm_types.specs.declared.value.ValType.{ValType}
use Rattle.wasm_types.specs.declared.instruction.Instr.{Instr}
use Rattle.wasm_types.specs.declared.modules.LocalGroup.{LocalGroup}
use Rattle.wasm_types.specs.declared.modules.Body.{Body}
use Rattle.wasm_types.specs.Locals.{locals_in, locals_of}

-- ---- locals

pub group_exact : (limited : Bool) (used : ℕ) → Exact group (λ (g : LocalGroup). Keeps limited 1024 used g.count) (group_at limited used)
unfolding group_at
group_exact limited used =
    as_exact (λ (p : ℕ × ValType). record { count = p.0; val_type = p.1 }) (λ (p : ℕ × ValType). u32 p.0 ⨾ val_type p.1) (λ (p : ℕ × ValType). Keeps limited 1024 used p.0 × Unit {0}) group (λ (g : LocalGroup). Keeps limited 1024 used g.count) (then_at (limited_at limited 1024 used) (λ _. val_type_at))
    (λ p text l. l) (λ p w. w.0) (λ g text l. ((g.count, g.val_type), l, refl, λ w. (w, tt)))
    (then_exact u32 (λ _. val_type) (Keeps limited 1024 used) (λ _. always) (limited_at limited 1024 used) (λ _. val_type_at) (limited_exact limited 1024 used) (λ _. val_type_exact))

-- the locals of the groups, with so many before them, keep the limit, where limits hold
abbrev pub Fits_locals : Bool → ℕ → List LocalGroup → Type 0
Fits_locals limited used gs = Keeps limited 1024 used (length (locals_of gs))

one_more : (g : LocalGroup) (gs : List LocalGroup) → length (locals_of (g ∷ gs)) ≡ g.count + length (locals_of gs)
one_more g gs = ap length (flat_map-cons locals_in g gs) ∙ length-append (locals_in g) (locals_of gs) ∙ ap (λ (k : ℕ). k + length (locals_of gs)) (length-replicate g.count g.val_type)

groups_none : (bytes : List ℕ) (gs : List LocalGroup) (text rest : List ℕ) → Counted group zero gs text → bytes ≡ text ++ rest → ◌≡◌ {A = List LocalGroup × List ℕ} ([], bytes) (gs, rest)
groups_none bytes [] text rest l e = let k : bytes ≡ rest = e ∙ ap (λ (t : List ℕ). t ++ rest) l.1 in cc
groups_none bytes (g ∷ gs) text rest l e = let k = l.0 in absurd cc

groups_out : (limited : Bool) (used n : ℕ) (gs : List LocalGroup) (text : List ℕ) → Counted group (suc n) gs text
    → (p : LocalGroup × List LocalGroup) × (group p.0 ⨾ Counted group n p.1) text × (p.0 ∷ p.1 ≡ gs) × (Fits_locals limited used gs → Keeps limited 1024 used p.0.count × Fits_locals limited (used + p.0.count) p.1)
groups_out limited used n [] text l = let k = l.0 in absurd cc
groups_out limited used n (g ∷ gs) text l =
    let len = one_more g gs in
    ((g, gs), record { front = l.1.front; back = l.1.back; parts = l.1.parts; is_first = l.1.is_first; is_second = (let k = l.0 in omega arith, l.1.is_second) }, refl, λ w. (λ e. omega (arith, w e, len), λ e. omega (arith, w e, len)))

groups_exact : (limited : Bool) (used n : ℕ) → Keeps limited 1024 used 0 → Exact (Counted group n) (Fits_locals limited used) (groups_at limited used n)
unfolding groups_at
groups_exact limited used zero le bytes = record { found = ([], refl, (refl, refl), le); only = groups_none bytes }
groups_exact limited used (suc n) le bytes =
    as_by (λ (p : LocalGroup × List LocalGroup). p.0 ∷ p.1) (λ (p : LocalGroup × List LocalGroup). group p.0 ⨾ Counted group n p.1) (λ (p : LocalGroup × List LocalGroup). Keeps limited 1024 used p.0.count × Fits_locals limited (used + p.0.count) p.1) (Counted group (suc n)) (Fits_locals limited used) bytes
    (then_at (group_at limited used) (λ g. groups_at limited (used + g.count) n) bytes)
    (λ p text l. (ap suc l.is_second.0, record { front = l.front; back = l.back; parts = l.parts; is_first = l.is_first; is_second = l.is_second.1 }))
    (λ p w. let len = one_more p.0 p.1 in λ e. omega (arith, w.1 e, len))
    (groups_out limited used n)
    (then_both group (λ _. Counted group n) (λ g. Keeps limited 1024 used g.count) (λ g. Fits_locals limited (used + g.count)) (group_at limited used bytes) (λ g. groups_at limited (used + g.count) n) bytes (group_exact limited used bytes)
    (λ g text rest l w e. groups_exact limited (used + g.count) n (λ h. omega (arith, w h)) rest))

pub locals_exact : (limited : Bool) (used : ℕ) → Keeps limited 1024 used 0 → Exact locals (Fits_locals limited used) (locals_at limited used)
unfolding locals_at
locals_exact limited used le =
    as_exact (λ (p : ℕ × List LocalGroup). p.1) (λ (p : ℕ × List LocalGroup). u32 p.0 ⨾ Counted group p.0 p.1) (λ (p : ℕ × List LocalGroup). Unit {0} × Fits_locals limited used p.1) locals (Fits_locals limited used) (then_at u32_at (groups_at limited used))
    (λ p text l. record { front = l.front; back = l.back; parts = l.parts; is_first = subst (λ (n : ℕ). u32 n l.front) (sym l.is_second.0) l.is_first; is_second = l.is_second.1 })
    (λ p w. w.1)
    (λ gs text l. ((length gs, gs), record { front = l.front; back = l.back; parts = l.parts; is_first = l.is_first; is_second = (refl, l.is_second) }, refl, λ w. (tt, w)))
    (then_exact u32 (Counted group) always (λ _. Fits_locals limited used) u32_at (groups_at limited used) u32_exact (λ n. groups_exact limited used n le))

pub locals_shrink : (params : ℕ) (bytes : List ℕ) (gs : List LocalGroup) (rest : List ℕ) → params ≤ 1024 → locals_at true params bytes ≡ Ok (gs, rest) → length rest ≤ length bytes
locals_shrink params bytes gs rest le e = shrinks locals (Fits_locals true params) bytes gs rest (locals_at true params bytes) (locals_exact true params (λ h. omega (arith, le)) bytes) e

-- ---- bodies

-- with so many parameters the locals keep the limit, where limits hold
abbrev pub Fits_body : Bool → ℕ → Body → Type 0
Fits_body limited params b = Fits_locals limited params b.locals

abbrev Inside : Body → Language
Inside b = locals b.locals ⨾ expr b.code b.labels

inside_exact : (limited : Bool) (params : ℕ) → Keeps limited 1024 params 0 → Exact Inside (Fits_body limited params) (inside_at limited params)
unfolding inside_at
inside_exact limited params le =
    as_exact (λ (p : List LocalGroup × (List Instr × List ℕ)). record { locals = p.0; code = p.1.0; labels = p.1.1 }) (λ (p : List LocalGroup × (List Instr × List ℕ)). locals p.0 ⨾ expr p.1.0 p.1.1) (λ (p : List LocalGroup × (List Instr × List ℕ)). Fits_locals limited params p.0 × Unit {0}) Inside (Fits_body limited params) (then_at (locals_at limited params) (λ _. expr_at))
    (λ p text l. l) (λ p w. w.0) (λ b text l. ((b.locals, (b.code, b.labels)), l, refl, λ w. (w, tt)))
    (then_exact locals (λ _ (p : List Instr × List ℕ). expr p.0 p.1) (Fits_locals limited params) (λ _. always) (locals_at limited params) (λ _. expr_at) (locals_exact limited params le) (λ _. expr_exact))

body_by : (limited : Bool) (params : ℕ) (bytes : List ℕ) (t : Bool) → ltb 1024 params ≡ t → Answers body (Fits_body limited params) bytes (cond (limited && t) (Err Oversized) (sized_at (inside_at limited params) bytes))
body_by true params bytes true t = record { found = tt; only = λ b text rest l e. λ w. absurd (omega (arith, ltb-true _ _ t, w refl)) }
body_by true params bytes false t = sized_exact Inside (Fits_body true params) (inside_at true params) (inside_exact true params (λ e. omega (arith, ltb-false _ _ t))) bytes
body_by false params bytes t u = sized_exact Inside (Fits_body false params) (inside_at false params) (inside_exact false params (λ e. absurd cc)) bytes

body_exact : (limited : Bool) (params : ℕ) → Exact body (Fits_body limited params) (body_at limited params)
unfolding body_at
body_exact limited params bytes = body_by limited params bytes (ltb 1024 params) refl

abbrev Bodies : List ℕ → List Body → Language
Bodies params bs text = (length bs ≡ length params) × each body bs text

abbrev pub Fits_all : Bool → List ℕ → List Body → Type 0
Fits_all limited params bs = limited ≡ true → Fit 1024 params bs

bodies_none : (bs : List Body) (text rest bytes : List ℕ) → Bodies [] bs text → bytes ≡ text ++ rest → ◌≡◌ {A = List Body × List ℕ} ([], bytes) (bs, rest)
bodies_none [] text rest bytes l e = ap (λ (r : List ℕ). no_bodies r) (e ∙ ap (λ (t : List ℕ). t ++ rest) l.1)
  where
    no_bodies : List ℕ → List Body × List ℕ
    no_bodies r = ([], r)
bodies_none (b ∷ bs) text rest bytes l e = let k = l.0 in absurd cc

bodies_out : (limited : Bool) (params : ℕ) (others : List ℕ) (bs : List Body) (text : List ℕ) → Bodies (params ∷ others) bs text
    → (p : Body × List Body) × (body p.0 ⨾ Bodies others p.1) text × (p.0 ∷ p.1 ≡ bs) × (Fits_all limited (params ∷ others) bs → Fits_body limited params p.0 × Fits_all limited others p.1)
bodies_out limited params others [] text l = let k = l.0 in absurd cc
bodies_out limited params others (b ∷ bs) text l = ((b, bs), record { front = l.1.front; back = l.1.back; parts = l.1.parts; is_first = l.1.is_first; is_second = (let k = l.0 in omega arith, l.1.is_second) }, refl, λ w. (λ e. (w e).0, λ e. (w e).1))

bodies_exact : (limited : Bool) (params : List ℕ) → Exact (Bodies params) (Fits_all limited params) (bodies_at limited params)
unfolding bodies_at
bodies_exact limited [] bytes = record { found = ([], refl, (refl, refl), λ e. tt); only = λ bs text rest l e. bodies_none bs text rest bytes l e }
bodies_exact limited (params ∷ others) bytes =
    as_by (λ (p : Body × List Body). p.0 ∷ p.1) (λ (p : Body × List Body). body p.0 ⨾ Bodies others p.1) (λ (p : Body × List Body). Fits_body limited params p.0 × Fits_all limited others p.1) (Bodies (params ∷ others)) (Fits_all limited (params ∷ others)) bytes
    (then_at (body_at limited params) (λ _. bodies_at limited others) bytes)
    (λ p text l. (ap suc l.is_second.0, record { front = l.front; back = l.back; parts = l.parts; is_first = l.is_first; is_second = l.is_second.1 }))
    (λ p w. λ e. (w.0 e, w.1 e))
    (bodies_out limited params others)
    (then_both body (λ _. Bodies others) (Fits_body limited params) (λ _. Fits_all limited others) (body_at limited params bytes) (λ _. bodies_at limited others) bytes (body_exact limited params bytes) (λ b text rest l w e. bodies_exact limited others rest))

-- the content of the code section, for so many functions
abbrev pub Code : List ℕ → List Body → Language
Code params bs text = (length bs ≡ length params) × vector body bs text

abbrev Code_for : List ℕ → ℕ → List Body → Language
Code_for params n bs text = (n ≡ length params) × Bodies params bs text

code_test : (limited : Bool) (params : List ℕ) (n : ℕ) (bytes : List ℕ) (t : Bool) → eqb n (length params) ≡ t → Answers (Code_for params n) (Fits_all limited params) bytes (cond t (bodies_at limited params bytes) (Err Malformed))
code_test limited params n bytes true t = alike (Bodies params) (Code_for params n) (Fits_all limited params) (Fits_all limited params) bytes (bodies_at limited params bytes) (λ bs text l. (eqb-true _ _ t, l)) (λ bs text l. l.1) (λ bs w. w) (λ bs w. w) (bodies_exact limited params bytes)
code_test limited params n bytes false t = record { found = tt; only = λ bs text rest l e. eqb-false _ _ t l.0 }

pub code_exact : (limited : Bool) (params : List ℕ) → Exact (Code params) (Fits_all limited params) (code_at limited params)
unfolding code_at
code_exact limited params =
    as_exact (λ (p : ℕ × List Body). p.1) (λ (p : ℕ × List Body). u32 p.0 ⨾ Code_for params p.0 p.1) (λ (p : ℕ × List Body). Unit {0} × Fits_all limited params p.1) (Code params) (Fits_all limited params) (then_at u32_at (λ n bytes. cond (eqb n (length params)) (bodies_at limited params bytes) (Err Malformed)))
    (λ p text l. (l.is_second.1.0, record { front = l.front; back = l.back; parts = l.parts; is_first = subst (λ (n : ℕ). u32 n l.front) (l.is_second.0 ∙ sym l.is_second.1.0) l.is_first; is_second = l.is_second.1.1 }))
    (λ p w. w.1)
    (λ bs text l. ((length bs, bs), record { front = l.1.front; back = l.1.back; parts = l.1.parts; is_first = l.1.is_first; is_second = (l.0, (l.0, l.1.is_second)) }, refl, λ w. (tt, w)))
    (then_exact u32 (Code_for params) always (λ _. Fits_all limited params) u32_at (λ n bytes. cond (eqb n (length params)) (bodies_at limited params bytes) (Err Malformed)) u32_exact (λ n bytes. code_test limited params n bytes (eqb n (length params)) refl))
