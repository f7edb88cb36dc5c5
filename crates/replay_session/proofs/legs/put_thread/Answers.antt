use Rattle.std.proofs.Common.{◌≡◌, ◌∷◌, [], ◌++◌, ap, ◌∙◌, rules}
use Rattle.replay_session.specs.declared.legs.Leg.TheVariants as leg
use Rattle.replay_session.proofs.LegLists.{put_same, put_other, put_rounds}
use Rattle.replay_session.proofs.legs.put_thread.Goals as goal

pub returns-then-last-thread : goal.returns-then-last-thread
returns-then-last-thread c =
    put_same c.args.legs.now.items c.pop.new.self.items c.push_reserved-then-last-thread.new.self.items c.in-Some-Thread.last c.in-Some-Thread.before c.args.thread c.args.steps c.if-steps-eq0.false (c.in-Some-Thread.ensures.items ∙ ap (λ x. c.pop.new.self.items ++ (x ∷ [])) (let f : c.in-Some-Thread.field-0 ≡ leg.Thread c.in-Some-Thread.last c.in-Some-Thread.before = search rules in f))
    c.if-last-thread.true c.push_reserved-then-last-thread.ensures.items

pub returns-else-last-thread : goal.returns-else-last-thread
returns-else-last-thread c =
    put_other c.args.legs.now.items c.pop.new.self.items c.push_reserved-else-last-thread-2.new.self.items c.in-Some-Thread.last c.in-Some-Thread.before c.args.thread c.args.steps c.if-steps-eq0.false (c.in-Some-Thread.ensures.items ∙ ap (λ x. c.pop.new.self.items ++ (x ∷ [])) (let f : c.in-Some-Thread.field-0 ≡ leg.Thread c.in-Some-Thread.last c.in-Some-Thread.before = search rules in f))
    c.if-last-thread.false (c.push_reserved-else-last-thread-2.ensures.items ∙ ap (λ xs. xs ++ (leg.Thread c.args.thread c.args.steps ∷ [])) c.push_reserved-else-last-thread.ensures.items)

pub returns-in-Some-Rounds : goal.returns-in-Some-Rounds
returns-in-Some-Rounds c =
    put_rounds c.args.legs.now.items c.pop.new.self.items c.push_reserved-in-Some-Rounds-2.new.self.items c.in-Some-Rounds.before c.args.thread c.args.steps c.if-steps-eq0.false (c.in-Some-Rounds.ensures.items ∙ ap (λ x. c.pop.new.self.items ++ (x ∷ [])) (let f : c.in-Some-Rounds.field-0 ≡ leg.Rounds c.in-Some-Rounds.before = search rules in f))
    (c.push_reserved-in-Some-Rounds-2.ensures.items ∙ ap (λ xs. xs ++ (leg.Thread c.args.thread c.args.steps ∷ [])) c.push_reserved-in-Some-Rounds.ensures.items)
