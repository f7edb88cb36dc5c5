-- One touch more is put.
use Rattle.std.proofs.Common.{◌≡◌, ◌-◌, ◌∷◌, [], ◌++◌, List, ℕ, length, ap, sym, ◌∙◌, arith, append_assoc, length-append}
use Rattle.std.specs.List.{flat_map}
use Rattle.std.proofs.lemmas.List.{append-nil}
use Rattle.std.proofs.lemmas.List.Concat.{flat_map-cons}
use Rattle.std.proofs.lemmas.Grind.{flat_map-append}
use Rattle.rw_objects.specs.declared.touch.Found.{Found}
use Rattle.rw_objects.specs.Text.{found_text}
use Rattle.log_pieces.specs.Reading.{read_times, read_touch}
use Rattle.log_pieces.proofs.Loop.{goes_on, fails, is_done}
use Rattle.replica.proofs.Passed.{same_read, whole}
use Rattle.replica.proofs.room.put_touches.Goals as goal

text : Found → List ℕ
text f = 32 ∷ found_text f

-- the text of one touch more
one_more : (found : List Found) (touch : Found) → flat_map (λ f. 32 ∷ found_text f) (found ++ touch ∷ []) ≡ flat_map (λ f. 32 ∷ found_text f) found ++ 32 ∷ found_text touch
unfolding text
one_more found touch = flat_map-append text found (touch ∷ []) ∙ ap (λ (l : List ℕ). flat_map text found ++ l) (flat_map-cons text touch [] ∙ append-nil (text touch))

pub loop-init : goal.loop-init
loop-init c =
    let all : c.args.count - 0 ≡ c.args.count = omega arith in
    record {
      passed = ([], sym (append-nil c.args.room.now), rw all (whole (read_times c.args.count read_touch c.args.bytes.now)));
      short = omega arith;
    }

pub loop-preserved : goal.loop-preserved
loop-preserved c =
    let found = c.loop.invariant.passed.0 in
    let touch = c.in-Some.found in
    let put = c.put.ensures in
    let short = ap length put in
    record {
      passed = (
        found ++ touch ∷ [],
        c.put_found.ensures.text ∙ ap (λ l. l ++ found_text touch) (put ∙ ap (λ l. l ++ 32 ∷ []) c.loop.invariant.passed.1) ∙ append_assoc (c.args.room.now ++ flat_map (λ f. 32 ∷ found_text f) found) (32 ∷ []) (found_text touch)
            ∙ append_assoc c.args.room.now (flat_map (λ f. 32 ∷ found_text f) found) (32 ∷ found_text touch) ∙ ap (λ (l : List ℕ). c.args.room.now ++ l) (sym (one_more found touch)),
        goes_on read_touch found c.args.count c.loop.counter c.loop.rest.now touch c.in-Some.behind.now (read_times c.args.count read_touch c.args.bytes.now) c.loop-test.true (sym c.in-Some.ensures) c.loop.invariant.passed.2,
      );
      short = omega (arith, c.loop.invariant.short, c.put_found.ensures.short, short, length-append c.loop.room (32 ∷ []));
    }

pub returns-in-None-clause-text : goal.returns-in-None-clause-text
returns-in-None-clause-text c found rest e =
    let none = fails read_touch c.loop.invariant.passed.0 c.args.count c.loop.counter c.loop.rest.now (read_times c.args.count read_touch c.args.bytes.now) c.loop-test.true (sym c.in-None.ensures) c.loop.invariant.passed.2 in
    absurd (cc (sym none ∙ e))

pub returns-clause-text : goal.returns-clause-text
returns-clause-text c found rest e =
    let so_far = c.loop.invariant.passed.0 in
    let all = is_done read_touch so_far c.args.count c.loop.counter c.loop.rest.now (read_times c.args.count read_touch c.args.bytes.now) c.loop-test.false c.loop.invariant.passed.2 in
    c.loop.invariant.passed.1 ∙ ap (λ (fs : List Found). c.args.room.now ++ flat_map (λ f. 32 ∷ found_text f) fs) (same_read so_far found c.loop.rest.now rest (sym all ∙ e))
