use Rattle.std.proofs.Common.{List, ℕ, ◌+◌, take, is_none, sym, ap, subst, ◌∙◌, IsUtf8}
use Rattle.indexmap.specs.IndexMap.{hasher_of}
use Rattle.validator.specs.Exports.{value_of, PutsNumber}
use Rattle.validator.proofs.Names.{text_next, text_twice, other_next, other_twice, same_noted, was_there, was_new, pushed}
use Rattle.validator.proofs.exports.names_of.Goals as goal
use Rattle.validator.proofs.exports.names_of.Goals.{in-Ok+in_ok-is_new-in-Ok, in-Err+in_ok-is_new-in-Err}

pub returns-then-not-is_new-clause-twice : goal.returns-then-not-is_new-clause-twice
returns-then-not-is_new-clause-twice c =
    elim c.match-from_utf8.branch [
      | in-Ok+in_ok-is_new-in-Ok w ↦
          let same = w.in-Ok.ensures.cases.0 ∙ c.as_slice-name.ensures in
          text_twice (λ k. k.now) c.loop-number.names.entries c.loop-number.others.keys c.args.exports.now c.loop-number.number c.index-exports-number.result
          c.loop-number-test.true (sym c.index-exports-number.is) c.loop-number.invariant.0 (subst IsUtf8 c.as_slice-name.ensures w.in-Ok.ensures.cases.1)
          (ap (λ (name : List ℕ). is_none (value_of c.loop-number.names.entries name)) (sym same) ∙ sym (w.is_new-is ∙ w.in_ok-is_new-in-Ok.ensures.is_new) ∙ c.if-not-is_new.true)
      | in-Err+in_ok-is_new-in-Err w ↦
          other_twice (λ k. k.now) c.loop-number.names.entries c.loop-number.others.keys c.args.exports.now c.loop-number.number c.index-exports-number.result
          c.loop-number-test.true (sym c.index-exports-number.is) c.loop-number.invariant.0 (λ u. w.in-Err.ensures.cases.0 (subst IsUtf8 (sym c.as_slice-name.ensures) u))
          c.as_slice-name.result c.as_slice-name.ensures (was_there _ _ (w.is_new-is ∙ w.in_ok-is_new-in-Err.ensures.added) c.if-not-is_new.true)
    ]

pub loop-number-preserved : goal.loop-number-preserved
loop-number-preserved c =
    elim c.match-from_utf8.branch [
      | in-Ok+in_ok-is_new-in-Ok w ↦
          let same = w.in-Ok.ensures.cases.0 ∙ c.as_slice-name.ensures in (
            same_noted (λ k. k.now) w.add_name.new.names.entries c.match-from_utf8.names.entries c.loop-number.others.keys c.match-from_utf8.others.keys (take (c.loop-number.number + 1) c.args.exports.now)
                (ap (λ m. m.entries) w.names-is) (ap (λ s. s.keys) w.others-is)
                (text_next (λ k. k.now) c.loop-number.names.entries c.loop-number.others.keys c.args.exports.now c.loop-number.number c.index-exports-number.result
                c.loop-number-test.true (sym c.index-exports-number.is) c.loop-number.invariant.0 (subst IsUtf8 c.as_slice-name.ensures w.in-Ok.ensures.cases.1) w.add_name.new.names.entries
                (subst (λ name. PutsNumber c.loop-number.names.entries name c.loop-number.number w.add_name.new.names.entries) same w.in_ok-is_new-in-Ok.ensures.puts)
                (ap (λ (name : List ℕ). is_none (value_of c.loop-number.names.entries name)) (sym same) ∙ sym (w.is_new-is ∙ w.in_ok-is_new-in-Ok.ensures.is_new) ∙ c.if-not-is_new.false)),
            ap hasher_of w.names-is ∙ w.in_ok-is_new-in-Ok.ensures.hasher ∙ c.loop-number.invariant.1,
          )
      | in-Err+in_ok-is_new-in-Err w ↦
          let new = was_new _ _ (w.is_new-is ∙ w.in_ok-is_new-in-Err.ensures.added) c.if-not-is_new.false in (
            same_noted (λ k. k.now) c.loop-number.names.entries c.match-from_utf8.names.entries w.insert.new.self.keys c.match-from_utf8.others.keys (take (c.loop-number.number + 1) c.args.exports.now)
                (ap (λ m. m.entries) w.names-is) (ap (λ s. s.keys) w.others-is)
                (other_next (λ k. k.now) c.loop-number.names.entries c.loop-number.others.keys c.args.exports.now c.loop-number.number c.index-exports-number.result
                c.loop-number-test.true (sym c.index-exports-number.is) c.loop-number.invariant.0 (λ u. w.in-Err.ensures.cases.0 (subst IsUtf8 (sym c.as_slice-name.ensures) u))
                c.as_slice-name.result c.as_slice-name.ensures w.insert.new.self.keys (w.in_ok-is_new-in-Err.ensures.keys ∙ pushed _ _ _ new) new),
            ap hasher_of w.names-is ∙ c.loop-number.invariant.1,
          )
    ]
