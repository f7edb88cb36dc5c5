use Rattle.std.proofs.Common.{◌≢◌, ℕ, ◌+◌, List, [], ◌∷◌, ◌++◌, Option, sym, ap, ◌∙◌, subst, inl, add-zero, arith}
use Rattle.std.proofs.lemmas.List.Elements.{All-nil}
use Rattle.adapter_messages.specs.Fields.{field_in}
use Rattle.adapter_messages.specs.Frames.{lines_text}
use Rattle.adapter_messages.specs.declared.fault.FrameFault.TheVariants as fault
use Rattle.adapter_messages.specs.declared.fields.Field.TheVariants.{End, Length, Broken}
use Rattle.adapter_messages.proofs.Headers.{HeaderCame, given, some_given, broken_by, long_by, stopped, passed_over, given_now, some_lines, some_last, no_lines}
use Rattle.adapter_messages.proofs.header.read_header.Goals as goal

pub returns-in-End-None : goal.returns-in-End-None
returns-in-End-None g c =
    let i = c.loop-line.invariant in
    let line = c.in-Line.line.items in
    let h = c.in-Line.ensures in
    let is = ap field_in (sym c.deref.ensures.0) ∙ sym c.field_in.ensures ∙ c.in-End-None.is-0 in
    let count = h.3 ∙ i.same ∙ sym (add-zero (g.R.Source.failed c.args.source.now)) in
    stopped g.R.Source.brings g.met.R.Source.brings_more c.args.source.now c.loop-line.source c.next_line.new.source (g.R.Source.ended c.next_line.new.source) c.loop-line.announced c.loop-line.is_begun fault.Broken (line ++ 10 ∷ []) _ _ i.came
    (broken_by (given c.loop-line.announced) line End is (ap given c.in-End-None.is-1)) tt h.1 count

pub returns-in-Length-Some : goal.returns-in-Length-Some
returns-in-Length-Some g c =
    let i = c.loop-line.invariant in
    let line = c.in-Line.line.items in
    let h = c.in-Line.ensures in
    let is = ap field_in (sym c.deref.ensures.0) ∙ sym c.field_in.ensures ∙ c.in-Length-Some.is-0 in
    let count = h.3 ∙ i.same ∙ sym (add-zero (g.R.Source.failed c.args.source.now)) in
    stopped g.R.Source.brings g.met.R.Source.brings_more c.args.source.now c.loop-line.source c.next_line.new.source (g.R.Source.ended c.next_line.new.source) c.loop-line.announced c.loop-line.is_begun fault.Broken (line ++ 10 ∷ []) _ _ i.came
    (broken_by (given c.loop-line.announced) line (Length c.in-Length-Some.field-0-0) is (some_given c.loop-line.announced c.in-Length-Some.field-0-1 c.in-Length-Some.is-1)) tt h.1 count

pub returns-in-TooLong-default : goal.returns-in-TooLong-default
returns-in-TooLong-default g c =
    let i = c.loop-line.invariant in
    let line = c.in-Line.line.items in
    let h = c.in-Line.ensures in
    let is = ap field_in (sym c.deref.ensures.0) ∙ sym c.field_in.ensures ∙ c.in-TooLong-default.is-0 in
    let count = h.3 ∙ i.same ∙ sym (add-zero (g.R.Source.failed c.args.source.now)) in
    stopped g.R.Source.brings g.met.R.Source.brings_more c.args.source.now c.loop-line.source c.next_line.new.source (g.R.Source.ended c.next_line.new.source) c.loop-line.announced c.loop-line.is_begun fault.TooLong (line ++ 10 ∷ []) _ _ i.came
    (long_by (given c.loop-line.announced) line is) tt h.1 count

pub returns-in-Broken-default : goal.returns-in-Broken-default
returns-in-Broken-default g c =
    let i = c.loop-line.invariant in
    let line = c.in-Line.line.items in
    let h = c.in-Line.ensures in
    let is = ap field_in (sym c.deref.ensures.0) ∙ sym c.field_in.ensures ∙ c.in-Broken-default.is-0 in
    let count = h.3 ∙ i.same ∙ sym (add-zero (g.R.Source.failed c.args.source.now)) in
    stopped g.R.Source.brings g.met.R.Source.brings_more c.args.source.now c.loop-line.source c.next_line.new.source (g.R.Source.ended c.next_line.new.source) c.loop-line.announced c.loop-line.is_begun fault.Broken (line ++ 10 ∷ []) _ _ i.came
    (broken_by (given c.loop-line.announced) line Broken is tt) tt h.1 count

pub returns-in-Nothing : goal.returns-in-Nothing
returns-in-Nothing g c =
    let i = c.loop-line.invariant in
    let h = c.in-Nothing.ensures in
    let none = no_lines i.came.lines (i.came.begun ∙ c.if-not-is_begun.true) in
    let came = g.met.R.Source.brings_more c.args.source.now c.loop-line.source c.next_line.new.source (lines_text i.came.lines) [] i.came.came h.0 in
    (subst (λ (t : List ℕ). g.R.Source.brings c.args.source.now (t ++ []) c.next_line.new.source) none came, h.1, h.2 ∙ i.same)

pub returns-in-Nothing-2 : goal.returns-in-Nothing-2
returns-in-Nothing-2 g c =
    let i = c.loop-line.invariant in
    let h = c.in-Nothing.ensures in
    let count = h.2 ∙ i.same ∙ sym (add-zero (g.R.Source.failed c.args.source.now)) in
    let begun = i.came.begun ∙ c.if-not-is_begun.false in
    stopped g.R.Source.brings g.met.R.Source.brings_more c.args.source.now c.loop-line.source c.next_line.new.source (g.R.Source.ended c.next_line.new.source) c.loop-line.announced c.loop-line.is_begun fault.Ended [] _ _ i.came
    (inl (All-nil (λ (b : ℕ). b ≢ 10))) (some_lines i.came.lines [] begun, h.1) h.0 count

pub returns-in-Part : goal.returns-in-Part
returns-in-Part g c =
    let i = c.loop-line.invariant in
    let h = c.in-Part.ensures in
    let count = h.4 ∙ i.same ∙ sym (add-zero (g.R.Source.failed c.args.source.now)) in
    stopped g.R.Source.brings g.met.R.Source.brings_more c.args.source.now c.loop-line.source c.next_line.new.source (g.R.Source.ended c.next_line.new.source) c.loop-line.announced c.loop-line.is_begun fault.Ended h.0 _ _ i.came
    (inl h.1.has_no_end) (some_last i.came.lines h.0 h.2, h.3) h.1.came count

pub returns-in-TooLong : goal.returns-in-TooLong
returns-in-TooLong g c =
    let i = c.loop-line.invariant in
    let h = c.in-TooLong.ensures in
    let count = h.3 ∙ i.same ∙ sym (add-zero (g.R.Source.failed c.args.source.now)) in
    stopped g.R.Source.brings g.met.R.Source.brings_more c.args.source.now c.loop-line.source c.next_line.new.source (g.R.Source.ended c.next_line.new.source) c.loop-line.announced c.loop-line.is_begun fault.TooLong h.0 _ _ i.came
    (inl (h.1.has_no_end, h.2)) tt h.1.came count

pub returns-in-Failed : goal.returns-in-Failed
returns-in-Failed g c =
    let i = c.loop-line.invariant in
    let h = c.in-Failed.ensures in
    let count = h.2 ∙ ap (λ (n : ℕ). n + 1) i.same in
    stopped g.R.Source.brings g.met.R.Source.brings_more c.args.source.now c.loop-line.source c.next_line.new.source (g.R.Source.ended c.next_line.new.source) c.loop-line.announced c.loop-line.is_begun fault.SourceFailed h.0 _ _ i.came
    (inl h.1.has_no_end) tt h.1.came count

pub loop-line-preserved-in-Length-None : goal.loop-line-preserved-in-Length-None
loop-line-preserved-in-Length-None g c =
    let i = c.loop-line.invariant in
    let line = c.in-Line.line.items in
    let h = c.in-Line.ensures in
    let is = ap field_in (sym c.deref.ensures.0) ∙ sym c.field_in.ensures ∙ c.in-Length-None.is-0 in
    let none = subst (λ (a : Option ℕ). HeaderCame (λ text. g.R.Source.brings c.args.source.now text c.loop-line.source) a c.loop-line.is_begun) c.in-Length-None.is-1 i.came in
    record {
      came = given_now (λ text. g.R.Source.brings c.args.source.now text c.loop-line.source) (λ text. g.R.Source.brings c.args.source.now text c.next_line.new.source) c.loop-line.is_begun line c.in-Length-None.length none h.0 is
          (λ text came. g.met.R.Source.brings_more c.args.source.now c.loop-line.source c.next_line.new.source text (line ++ 10 ∷ []) came h.1);
      same = h.3 ∙ i.same;
      fewer = omega (arith, h.2, i.fewer);
    }

pub loop-line-preserved : goal.loop-line-preserved
loop-line-preserved g c =
    let i = c.loop-line.invariant in
    let line = c.in-Line.line.items in
    let h = c.in-Line.ensures in
    let is = ap field_in (sym c.deref.ensures.0) ∙ sym c.field_in.ensures ∙ c.in-Other-default.is-0 in
    record {
      came = passed_over (λ text. g.R.Source.brings c.args.source.now text c.loop-line.source) (λ text. g.R.Source.brings c.args.source.now text c.next_line.new.source) c.loop-line.announced c.loop-line.is_begun line i.came h.0 is
          (λ text came. g.met.R.Source.brings_more c.args.source.now c.loop-line.source c.next_line.new.source text (line ++ 10 ∷ []) came h.1);
      same = h.3 ∙ i.same;
      fewer = omega (arith, h.2, i.fewer);
    }
