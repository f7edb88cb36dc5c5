-- Custom sections are skipped, and nothing else is.
use Rattle.std.proofs.Common.{◌≡◌, ℕ, zero, suc, ◌<◌, ◌≤◌, true, false, eqb, List, [], ◌∷◌, ◌++◌, length, Result, Ok, Err, refl, sym, ap, subst, ◌∙◌, append_assoc, arith}
use Rattle.std.proofs.lemmas.Bool.{eqb-true, eqb-false}
use Rattle.binary_decoder.specs.Language.{Language, anything, ◌⨾◌, each, name, sized}
use Rattle.binary_decoder.specs.Fault.{Fault, Malformed, Oversized, Reading, ◌>>=◌}
use Rattle.binary_decoder.specs.Reading.{byte_at, name_at}
use Rattle.binary_decoder.proofs.ReadAnswers.{Told, Answers, Exact, AnswersAll, always}
use Rattle.binary_decoder.proofs.ReadLaws.{name_exact, sized_all_exact, shrinks}
use Rattle.binary_decoder.specs.Grammar.{custom, customs}
use Rattle.binary_decoder.specs.Reader.{custom_at, behind_custom_at, skip_at, skipped}
use Rattle.binary_decoder.specs.Reading.{begins}
use Rattle.binary_decoder.specs.declared.fault.DecodeFault.{DecodeFault}
use Rattle.binary_decoder.specs.declared.fault.DecodeFault.TheVariants.{Refused, TooLarge, NoMemory}
use Rattle.binary_decoder.specs.Moves.{Fails}

-- ---- one custom section, behind its id

abbrev Named : List ℕ → Language
Named title = name title ⨾ anything

named_by : (content : List ℕ) (r : Reading (List ℕ)) → Answers name always content r → AnswersAll Named always content (r >>= λ title. Ok title.0)
named_by content (Ok p) f = record { found = (record { front = f.found.0; back = p.1; parts = f.found.1; is_first = f.found.2; is_second = tt }, tt); only = λ t l. ap (λ (q : List ℕ × List ℕ). q.0) (f.only t l.front l.back l.is_first l.parts) }
named_by content (Err Malformed) f = record { found = tt; only = λ t l. f.only t l.front l.back l.is_first l.parts }
named_by content (Err Oversized) f = record { found = tt; only = λ t l. f.only t l.front l.back l.is_first l.parts }

custom_exact : Exact (λ (title : List ℕ). sized (Named title)) always custom_at
unfolding custom_at
custom_exact = sized_all_exact Named always (λ content. name_at content >>= λ title. Ok title.0) (λ content. named_by content (name_at content) (name_exact content))

pub custom_shrinks : (bytes : List ℕ) (title rest : List ℕ) → custom_at bytes ≡ Ok (title, rest) → length rest ≤ length bytes
custom_shrinks bytes title rest e = shrinks (λ (title : List ℕ). sized (Named title)) always bytes title rest (custom_at bytes) (custom_exact bytes) e

-- ---- skipping

-- empty, or a first byte that is no custom section's id
abbrev pub Settled : List ℕ → Type 0
Settled [] = Unit {0}
Settled (b ∷ bs) = 0 < b

enough_by : (n m : ℕ) (bs : List ℕ) (r : Reading (List ℕ)) → custom_at bs ≡ r → length bs ≤ n → length bs ≤ m → ((b : List ℕ) → length b ≤ n → length b ≤ m → skip_at n b ≡ skip_at m b) → (r >>= λ x. skip_at n x.1) ≡ (r >>= λ x. skip_at m x.1)
enough_by n m bs (Ok p) e le lm ih = let k = custom_shrinks bs p.0 p.1 e in ih p.1 (omega arith) (omega arith)
enough_by n m bs (Err f) e le lm ih = refl

enough : (n m : ℕ) (bytes : List ℕ) → length bytes ≤ n → length bytes ≤ m → skip_at n bytes ≡ skip_at m bytes
unfolding skip_at
enough n m [] le lm = refl
enough zero m (b ∷ bs) le lm = absurd (omega arith)
enough (suc n) zero (b ∷ bs) le lm = absurd (omega arith)
enough (suc n) (suc m) (zero ∷ bs) le lm = enough_by n m bs (custom_at bs) refl (omega arith) (omega arith) (enough n m)
enough (suc n) (suc m) (suc b ∷ bs) le lm = refl

custom_by : (bs : List ℕ) (r : Reading (List ℕ)) → custom_at bs ≡ r → (r >>= λ x. skip_at (length bs) x.1) ≡ (r >>= λ x. skipped x.1)
unfolding skipped
custom_by bs (Ok p) e = enough (length bs) (length p.1) p.1 (custom_shrinks bs p.0 p.1 e) (omega arith)
custom_by bs (Err f) e = refl

pub skipped_custom : (bs : List ℕ) → skipped (0 ∷ bs) ≡ (custom_at bs >>= λ x. skipped x.1)
unfolding skipped skip_at
skipped_custom bs = custom_by bs (custom_at bs) refl

pub skipped_settled : (bytes : List ℕ) → Settled bytes → skipped bytes ≡ Ok bytes
unfolding skipped skip_at
skipped_settled [] h = refl
skipped_settled (zero ∷ bs) h = absurd (omega arith)
skipped_settled (suc b ∷ bs) h = refl

-- ---- what is skipped is custom sections

abbrev Behind_customs : List ℕ → List ℕ → Type 0
Behind_customs bytes rest = (c : List ℕ) × customs c × (bytes ≡ c ++ rest) × Settled rest

found_more : (n : ℕ) (bs rest : List ℕ) (r : Reading (List ℕ)) → Answers (λ (title : List ℕ). sized (Named title)) always bs r → ((b : List ℕ) → skip_at n b ≡ Ok rest → Behind_customs b rest) → (r >>= λ x. skip_at n x.1) ≡ Ok rest → Behind_customs (0 ∷ bs) rest
found_more n bs rest (Ok p) f ih e =
    let g = ih p.1 e in
    let t = f.found.0 in (
      (0 ∷ t) ++ g.0,
      (p.0 ∷ g.1.0, record { front = 0 ∷ t; back = g.0; parts = refl; is_first = record { front = 0 ∷ []; back = t; parts = refl; is_first = refl; is_second = f.found.2 }; is_second = g.1.1 }),
      ap (λ (x : List ℕ). 0 ∷ x) (f.found.1 ∙ ap (λ (x : List ℕ). t ++ x) g.2 ∙ sym (append_assoc t g.0 rest)),
      g.3,
    )
found_more n bs rest (Err d) f ih e = absurd cc

skip_found : (n : ℕ) (bytes rest : List ℕ) → skip_at n bytes ≡ Ok rest → Behind_customs bytes rest
unfolding skip_at
skip_found n [] rest e = let k : [] ≡ rest = cc in ([], ([], refl), k, subst Settled k tt)
skip_found zero (b ∷ bs) rest e = absurd cc
skip_found (suc n) (zero ∷ bs) rest e = found_more n bs rest (custom_at bs) (custom_exact bs) (λ b h. skip_found n b rest h) e
skip_found (suc n) (suc b ∷ bs) rest e = let k : suc b ∷ bs ≡ rest = cc in let pos_b : 0 < suc b = omega arith in ([], ([], refl), k, subst Settled k pos_b)

pub skipped_found : (bytes rest : List ℕ) → skipped bytes ≡ Ok rest → Behind_customs bytes rest
unfolding skipped
skipped_found bytes rest e = skip_found (length bytes) bytes rest e

-- ---- custom sections are skipped

told_ok : (r : Reading (List ℕ)) (title after : List ℕ) → Told (always {X = List ℕ}) r title after → r ≡ Ok (title, after)
told_ok (Ok p) title after h = ap (λ (q : List ℕ × List ℕ). Ok q) h
told_ok (Err Malformed) title after h = absurd h
told_ok (Err Oversized) title after h = absurd (h tt)

one_skipped : (title c t : List ℕ) → custom title c → skipped (c ++ t) ≡ skipped t
one_skipped title c t l =
    let same : c ++ t ≡ 0 ∷ (l.back ++ t) = ap (λ (x : List ℕ). x ++ t) (l.parts ∙ ap (λ (x : List ℕ). x ++ l.back) l.is_first) in
    let r : custom_at (l.back ++ t) ≡ Ok (title, t) = told_ok (custom_at (l.back ++ t)) title t ((custom_exact (l.back ++ t)).only title l.back t l.is_second refl) in
    ap skipped same ∙ skipped_custom (l.back ++ t) ∙ ap (λ (q : Reading (List ℕ)). q >>= λ x. skipped x.1) r

each_skipped : (titles : List (List ℕ)) (c t : List ℕ) → each custom titles c → skipped (c ++ t) ≡ skipped t
each_skipped [] c t l = ap skipped (ap (λ (x : List ℕ). x ++ t) l)
each_skipped (n ∷ ns) c t l =
    ap skipped (ap (λ (x : List ℕ). x ++ t) l.parts ∙ append_assoc l.front l.back t) ∙ one_skipped n l.front (l.back ++ t) l.is_first ∙ each_skipped ns l.back t l.is_second

pub customs_skipped : (c t : List ℕ) → customs c → skipped (c ++ t) ≡ skipped t
customs_skipped c t l = each_skipped l.0 c t l.1

-- ---- one custom section after the other, as a loop does

abbrev rest_of : Reading (Unit {0}) → List ℕ
rest_of (Ok p) = p.1
rest_of (Err f) = []

abbrev passed : List ℕ → Reading (Unit {0})
passed rest = Ok (tt, rest)

pub step_behind : (bytes after rest : List ℕ) → begins 0 bytes ≡ true → byte_at 0 bytes ≡ Ok (tt, after) → behind_custom_at after ≡ Ok (tt, rest) → (skipped rest ≡ skipped bytes) × (length rest < length bytes)
step_behind [] after rest b e h = absurd cc
step_behind (c ∷ cs) after rest b e h =
    let same : c ≡ 0 = eqb-true c 0 b in
    let behind : cs ≡ after = byte_behind c cs after b e in
    behind_by c cs after rest (custom_at after) refl same behind h
  where
    byte_behind : (c : ℕ) (cs after : List ℕ) → eqb c 0 ≡ true → byte_at 0 (c ∷ cs) ≡ Ok (tt, after) → cs ≡ after
    byte_behind c cs after t e = let k : ◌≡◌ {A = Reading (Unit {0})} (Ok (tt, cs)) (Ok (tt, after)) = rw t at e in ap (λ (r : Reading (Unit {0})). rest_of r) k

    behind_by : (c : ℕ) (cs after rest : List ℕ) (r : Reading (List ℕ)) → custom_at after ≡ r → c ≡ 0 → cs ≡ after → (r >>= λ x. passed x.1) ≡ Ok (tt, rest) → (skipped rest ≡ skipped (c ∷ cs)) × (length rest < suc (length cs))
    behind_by c cs after rest (Ok p) custom same behind h =
        let k : p.1 ≡ rest = ap (λ (r : Reading (Unit {0})). rest_of r) h in
        let s : skipped (0 ∷ after) ≡ skipped p.1 = skipped_custom after ∙ ap (λ (r : Reading (List ℕ)). r >>= λ x. skipped x.1) custom in
        (ap skipped (sym k) ∙ sym s ∙ ap (λ (x : List ℕ). skipped (0 ∷ x)) (sym behind) ∙ ap (λ (x : ℕ). skipped (x ∷ cs)) (sym same), let len = custom_shrinks after p.0 p.1 custom in omega (arith, ap length k, ap length behind))
    behind_by c cs after rest (Err f) custom same behind h = absurd cc

pub fails_behind : (e : DecodeFault) (bytes after : List ℕ) → begins 0 bytes ≡ true → byte_at 0 bytes ≡ Ok (tt, after) → Fails e (behind_custom_at after) → Fails e (skipped bytes)
fails_behind e [] after b h f = absurd cc
fails_behind e (c ∷ cs) after b h f =
    let same : c ≡ 0 = eqb-true c 0 b in
    let k : ◌≡◌ {A = Reading (Unit {0})} (Ok (tt, cs)) (Ok (tt, after)) = rw b at h in
    let behind : cs ≡ after = ap (λ (r : Reading (Unit {0})). rest_of r) k in
    let s : skipped (c ∷ cs) ≡ (custom_at after >>= λ x. skipped x.1) = ap (λ (x : ℕ). skipped (x ∷ cs)) same ∙ ap (λ (x : List ℕ). skipped (0 ∷ x)) behind ∙ skipped_custom after in
    fails_by e (custom_at after) (skipped (c ∷ cs)) s f
  where
    errs : (d g : Fault) → ◌≡◌ {A = Reading (Unit {0})} (Err d) (Err g) → ◌≡◌ {A = Result (List ℕ) Fault} (Err d) (Err g)
    errs d g e = cc

    fails_by : (e : DecodeFault) (r : Reading (List ℕ)) (total : Result (List ℕ) Fault) → total ≡ (r >>= λ x. skipped x.1) → Fails e (r >>= λ x. passed x.1) → Fails e total
    fails_by NoMemory r total s f = tt
    fails_by (TooLarge limit count place) (Err d) total s f = s ∙ errs d Oversized f
    fails_by (TooLarge limit count place) (Ok p) total s f = absurd cc
    fails_by (Refused offset place cause) (Err d) total s f = s ∙ errs d Malformed f
    fails_by (Refused offset place cause) (Ok p) total s f = absurd cc

pub nothing_skipped : (bytes : List ℕ) → begins 0 bytes ≡ false → skipped bytes ≡ Ok bytes
nothing_skipped [] b = skipped_settled [] tt
nothing_skipped (c ∷ cs) b = let k = eqb-false c 0 b in skipped_settled (c ∷ cs) (above_zero c k)
  where
    above_zero : (c : ℕ) → (c ≡ 0 → ⊥) → 0 < c
    above_zero zero k = absurd (k refl)
    above_zero (suc c) k = omega arith

pub fails_from : (e : DecodeFault) (bytes total : List ℕ) → skipped bytes ≡ skipped total → Fails e (skipped bytes) → Fails e (skipped total)
fails_from NoMemory bytes total s f = tt
fails_from (TooLarge limit count place) bytes total s f = sym s ∙ f
fails_from (Refused offset place cause) bytes total s f = sym s ∙ f
