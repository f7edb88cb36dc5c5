-- Lines gathered one after the other.
use Rattle.std.proofs.Common.{◌≡◌, ◌≢◌, ℕ, suc, ◌+◌, ◌-◌, ◌^◌, List, [], ◌∷◌, ◌++◌, length, refl, sym, ap, subst, ◌∙◌, arith, inl, inr, ◌⊎◌, append_assoc}
use Rattle.std.specs.Prelude.{min}
use Rattle.std.proofs.Math.ListN.{length-append}
use Rattle.std.specs.List.{flat_map, AllByRecursion}
use Rattle.std.proofs.lemmas.List.{append-nil}
use Rattle.std.proofs.lemmas.List.Concat.{flat_map-cons, flat_map-append}
use Rattle.wasm_types.specs.declared.key.RunKey.{RunKey}
use Rattle.log_pieces.specs.Piece.{PieceValue, IsPiece}
use Rattle.log_pieces.specs.Widths.{Fits}
use Rattle.log_pieces.specs.Line.{line_of, IsLineOf}
use Rattle.log_pieces.proofs.AgreedLaws.{agreed_like}
use Rattle.replica.specs.declared.log.Log.{Log}
use Rattle.replica.specs.Log.{key_of}
use Rattle.replica.specs.LogOf.{IsLogOf, Among, ClaimsEntry, ClaimsEnd}
use Rattle.replica.specs.Lines.{HasNoEnd}
use Rattle.replica.specs.Gathered.{AreLines, IsText, AreOfRun, BeginsWith, HasNoLine, line_after}
use Rattle.replica.specs.Rest.{RestGathered, RestBad, RestOther, RestCut}

all_append : {X : Type 0} (P : X → Type 0) (xs ys : List X) → AllByRecursion P xs → AllByRecursion P ys → AllByRecursion P (xs ++ ys)
all_append P [] ys h g = g
all_append P (x ∷ xs) ys h g = (h.0, all_append P xs ys h.1 g)

-- the lines of some pieces, and then of others
lines_append : (a b : List ℕ) (ps qs : List PieceValue) → AreLines a ps → AreLines b qs → AreLines (a ++ b) (ps ++ qs)
lines_append a b ps qs h g = record {
  rules = all_append IsPiece ps qs h.rules g.rules;
  fits = all_append Fits ps qs h.fits g.fits;
  written = ap (λ l. l ++ b) h.written ∙ ap (λ l. flat_map line_of ps ++ l) g.written ∙ sym (flat_map-append line_of ps qs);
}

line_one : (line : List ℕ) (piece : PieceValue) → IsLineOf line piece → AreLines line (piece ∷ [])
line_one line piece is = record {
  rules = (is.rules, tt);
  fits = (is.fits, tt);
  written = is.written ∙ sym (append-nil (line_of piece)) ∙ sym (flat_map-cons line_of piece []);
}

pub lines_none : AreLines [] []
lines_none = record { rules = tt; fits = tt; written = refl }

pub begins_none : (key : RunKey) (text : List ℕ) → BeginsWith key text [] text
begins_none key text = record { front = []; parts = refl; lines = lines_none; run = tt }

-- more comes behind
pub begins_got : (key : RunKey) (text rest got : List ℕ) (ps : List PieceValue) → BeginsWith key text ps rest → BeginsWith key (text ++ got) ps (rest ++ got)
begins_got key text rest got ps h = record {
  front = h.front;
  parts = ap (λ l. l ++ got) h.parts ∙ append_assoc h.front rest got;
  lines = h.lines;
  run = h.run;
}

-- one line more
pub begins_more : (key : RunKey) (text line rest : List ℕ) (ps : List PieceValue) (piece : PieceValue) → BeginsWith key text ps (line ++ rest) → IsLineOf line piece → piece.key ≡ key → BeginsWith key text (ps ++ piece ∷ []) rest
begins_more key text line rest ps piece h is of_run = record {
  front = h.front ++ line;
  parts = h.parts ∙ sym (append_assoc h.front line rest);
  lines = lines_append h.front line ps (piece ∷ []) h.lines (line_one line piece is);
  run = all_append (λ p. p.key ≡ key) ps (piece ∷ []) h.run (of_run, tt);
}

-- one line before
pub begins_first : (key : RunKey) (text line rest : List ℕ) (ps : List PieceValue) (piece : PieceValue) → IsLineOf line piece → piece.key ≡ key → BeginsWith key text ps rest → BeginsWith key (line ++ text) (piece ∷ ps) rest
begins_first key text line rest ps piece is of_run h = record {
  front = line ++ h.front;
  parts = ap (λ l. line ++ l) h.parts ∙ sym (append_assoc line h.front rest);
  lines = lines_append line h.front (piece ∷ []) ps (line_one line piece is) h.lines;
  run = (of_run, h.run);
}

pub text_ended : (key : RunKey) (text rest : List ℕ) (ps : List PieceValue) → rest ≡ [] → BeginsWith key text ps rest → IsText text ps
text_ended key text rest ps none h = inl (subst (λ l. AreLines l ps) (sym (h.parts ∙ ap (λ l. h.front ++ l) none ∙ append-nil h.front)) h.lines)

pub text_last : (key : RunKey) (text rest : List ℕ) (ps : List PieceValue) (piece : PieceValue) → BeginsWith key text ps rest → IsLineOf (rest ++ 10 ∷ []) piece → IsText text (ps ++ piece ∷ [])
text_last key text rest ps piece h is = inr (subst (λ l. AreLines l (ps ++ piece ∷ [])) (sym (ap (λ l. l ++ 10 ∷ []) h.parts ∙ append_assoc h.front rest (10 ∷ [])))
    (lines_append h.front (rest ++ 10 ∷ []) ps (piece ∷ []) h.lines (line_one (rest ++ 10 ∷ []) piece is)))

pub text_first : (text line : List ℕ) (ps : List PieceValue) (piece : PieceValue) → IsLineOf line piece → IsText text ps → IsText (line ++ text) (piece ∷ ps)
text_first text line ps piece is h = elim h [
  | inl whole ↦ inl (lines_append line text (piece ∷ []) ps (line_one line piece is) whole)
  | inr cut ↦ inr (subst (λ l. AreLines l (piece ∷ ps)) (sym (append_assoc line text (10 ∷ []))) (lines_append line (text ++ 10 ∷ []) (piece ∷ []) ps (line_one line piece is) cut))
]

pub run_push : (key : RunKey) (ps : List PieceValue) (piece : PieceValue) → AreOfRun key ps → piece.key ≡ key → AreOfRun key (ps ++ piece ∷ [])
run_push key ps piece h is = all_append (λ p. p.key ≡ key) ps (piece ∷ []) h (is, tt)

-- the pieces of ps delivered in turn onto those of qs
abbrev pub onto : List PieceValue → List PieceValue → List PieceValue
onto [] qs = qs
onto (p ∷ ps) qs = onto ps (p ∷ qs)

pub onto_push : (ps qs : List PieceValue) (piece : PieceValue) → onto (ps ++ piece ∷ []) qs ≡ piece ∷ onto ps qs
onto_push [] qs piece = refl
onto_push (p ∷ ps) qs piece = onto_push ps (p ∷ qs) piece

among_onto : (ps qs : List PieceValue) (p : PieceValue) → Among (onto ps qs) p → Among ps p ⊎ Among qs p
among_onto [] qs p h = inr h
among_onto (q ∷ ps) qs p h = elim (among_onto ps (q ∷ qs) p h) [ inl k ↦ inl (inr k) | inr k ↦ elim k [ inl e ↦ inl (inl e) | inr m ↦ inr m ] ]

onto_among : (ps qs : List PieceValue) (p : PieceValue) → Among ps p ⊎ Among qs p → Among (onto ps qs) p
onto_among [] qs p h = elim h [ inl k ↦ absurd k | inr k ↦ k ]
onto_among (q ∷ ps) qs p h = onto_among ps (q ∷ qs) p (elim h [ inl k ↦ elim k [ inl e ↦ inr (inl e) | inr m ↦ inl m ] | inr k ↦ inr (inr k) ])

-- the log depends on the set alone
pub log_like : (C D : PieceValue → Type 0) (log : Log) → ((p : PieceValue) → C p → D p) → ((p : PieceValue) → D p → C p) → IsLogOf C log → IsLogOf D log
log_like C D log f g h = record {
  entries = λ thread place. agreed_like (λ e. (p : PieceValue) × C p × ClaimsEntry p thread place e) (λ e. (p : PieceValue) × D p × ClaimsEntry p thread place e) (λ e c. (c.0, f c.0 c.1, c.2)) (λ e c. (c.0, g c.0 c.1, c.2)) _ (h.entries thread place);
  ends = λ thread. agreed_like (λ e. (p : PieceValue) × C p × ClaimsEnd p thread e) (λ e. (p : PieceValue) × D p × ClaimsEnd p thread e) (λ e c. (c.0, f c.0 c.1, c.2)) (λ e c. (c.0, g c.0 c.1, c.2)) _ (h.ends thread);
}

pub log_onto : (ps : List PieceValue) (first : PieceValue) (log : Log) → IsLogOf (Among (onto ps (first ∷ []))) log → IsLogOf (Among (first ∷ ps)) log
log_onto ps first log h = log_like (Among (onto ps (first ∷ []))) (Among (first ∷ ps)) log
    (λ p k. elim (among_onto ps (first ∷ []) p k) [ inl m ↦ inr m | inr m ↦ elim m [ inl e ↦ inl e | inr n ↦ absurd n ] ])
    (λ p k. onto_among ps (first ∷ []) p (elim k [ inl e ↦ inr (inl e) | inr m ↦ inl m ])) h

-- what was gathered so far behind the first line
pub record SoFar {Source : Type 0} (brings : List ℕ → Source → Type 0) (held : List ℕ) (old : Log) (source : Source) (chunk : List ℕ) (log : Log) (number : ℕ) : Type 0 where
  pub got : List ℕ
  pub came : brings got source
  pub pieces : List PieceValue
  pub begins : BeginsWith (key_of old) (held ++ got) pieces chunk
  pub run : key_of log ≡ key_of old
  pub items : (ps : List PieceValue) → IsLogOf (Among ps) old → IsLogOf (Among (onto pieces ps)) log
  pub counted : number ≡ line_after (length pieces)

next_number : (n number lines : ℕ) → n ≡ min (number + 1) (2 ^ 64 - 1) → number ≡ line_after lines → n ≡ line_after (suc lines)
next_number n number lines h g = omega arith

module _ {Source : Type 0} (brings : List ℕ → Source → Type 0) (step : Source → List ℕ → Source → Type 0) (more_brought : (s t : Source) (got more : List ℕ) → brings got s → step s more t → brings (got ++ more) t) where
  module _ (held : List ℕ) (old : Log) (source : Source) (chunk : List ℕ) (log : Log) (number : ℕ) (so_far : SoFar brings held old source chunk log number) (next : Source) (more : List ℕ) (came : step source more next) where
    got_more : BeginsWith (key_of old) (held ++ (so_far.got ++ more)) so_far.pieces (chunk ++ more)
    got_more = subst (λ l. BeginsWith (key_of old) l so_far.pieces (chunk ++ more)) (append_assoc held so_far.got more) (begins_got (key_of old) (held ++ so_far.got) chunk more so_far.pieces so_far.begins)

    pub rest_bad : (ended : Type 0) (n : ℕ) → n ≡ min (number + 1) (2 ^ 64 - 1) → HasNoLine ended (chunk ++ more) → RestBad brings ended held next (key_of old) n
    rest_bad ended n is bad = record {
      got = so_far.got ++ more;
      came = more_brought source next so_far.got more so_far.came came;
      pieces = so_far.pieces;
      rest = chunk ++ more;
      begins = got_more;
      counted = next_number n number (length so_far.pieces) is so_far.counted;
      bad = bad;
    }

    pub rest_cut : HasNoEnd (chunk ++ more) → RestCut brings held next (key_of old)
    rest_cut cut = record {
      got = so_far.got ++ more;
      came = more_brought source next so_far.got more so_far.came came;
      pieces = so_far.pieces;
      rest = chunk ++ more;
      begins = got_more;
      cut = cut;
    }

    pub rest_end : (ended : Type 0) → ended → chunk ++ more ≡ [] → RestGathered brings ended held next old log
    rest_end ended end none = record {
      got = so_far.got ++ more;
      came = more_brought source next so_far.got more so_far.came came;
      end = end;
      pieces = so_far.pieces;
      text = text_ended (key_of old) (held ++ (so_far.got ++ more)) (chunk ++ more) so_far.pieces none got_more;
      run = so_far.begins.run;
      same_run = so_far.run;
      log = λ first is. log_onto so_far.pieces first log (so_far.items (first ∷ []) is);
    }

    pub rest_last : (ended : Type 0) (piece : PieceValue) (new : Log) → ended → IsLineOf (chunk ++ more ++ 10 ∷ []) piece → piece.key ≡ key_of log → key_of new ≡ key_of log
        → ((ps : List PieceValue) → IsLogOf (Among ps) log → IsLogOf (Among (piece ∷ ps)) new) → RestGathered brings ended held next old new
    rest_last ended piece new end is of_run same_run joined = record {
      got = so_far.got ++ more;
      came = more_brought source next so_far.got more so_far.came came;
      end = end;
      pieces = so_far.pieces ++ piece ∷ [];
      text = text_last (key_of old) (held ++ (so_far.got ++ more)) (chunk ++ more) so_far.pieces piece got_more is;
      run = run_push (key_of old) so_far.pieces piece so_far.begins.run (of_run ∙ so_far.run);
      same_run = same_run ∙ so_far.run;
      log = λ first has. log_onto (so_far.pieces ++ piece ∷ []) first new
          (subst (λ (l : List PieceValue). IsLogOf (Among l) new) (sym (onto_push so_far.pieces (first ∷ []) piece)) (joined (onto so_far.pieces (first ∷ [])) (so_far.items (first ∷ []) has)));
    }

    pub rest_other : (n : ℕ) (own : RunKey) (piece : PieceValue) (line : List ℕ) → n ≡ min (number + 1) (2 ^ 64 - 1) → IsLineOf line piece
        → (((behind : List ℕ) × (chunk ++ more ≡ line ++ behind)) ⊎ (chunk ++ more ++ 10 ∷ [] ≡ line)) → own ≡ piece.key → piece.key ≢ key_of log → RestOther brings held next (key_of old) n own
    rest_other n own piece line is is_line stands same other = record {
      got = so_far.got ++ more;
      came = more_brought source next so_far.got more so_far.came came;
      pieces = so_far.pieces;
      rest = chunk ++ more;
      begins = got_more;
      counted = next_number n number (length so_far.pieces) is so_far.counted;
      piece = piece;
      line = line;
      is_line = is_line;
      stands = stands;
      of = sym same;
      other = λ e. other (sym same ∙ e ∙ sym so_far.run);
    }

    pub so_far_more : (n : ℕ) (piece : PieceValue) (line later : List ℕ) (new : Log) → n ≡ min (number + 1) (2 ^ 64 - 1) → IsLineOf line piece → chunk ++ more ≡ line ++ later → piece.key ≡ key_of log → key_of new ≡ key_of log
        → ((ps : List PieceValue) → IsLogOf (Among ps) log → IsLogOf (Among (piece ∷ ps)) new) → SoFar brings held old next later new n
    so_far_more n piece line later new is is_line parts of_run same_run joined = record {
      got = so_far.got ++ more;
      came = more_brought source next so_far.got more so_far.came came;
      pieces = so_far.pieces ++ piece ∷ [];
      begins = begins_more (key_of old) (held ++ (so_far.got ++ more)) line later so_far.pieces piece
          (subst (λ l. BeginsWith (key_of old) (held ++ (so_far.got ++ more)) so_far.pieces l) parts got_more) is_line (of_run ∙ so_far.run);
      run = same_run ∙ so_far.run;
      items = λ ps has. subst (λ (l : List PieceValue). IsLogOf (Among l) new) (sym (onto_push so_far.pieces ps piece)) (joined (onto so_far.pieces ps) (so_far.items ps has));
      counted = let one = next_number n number (length so_far.pieces) is so_far.counted in let count = length-append so_far.pieces (piece ∷ []) in omega arith;
    }
