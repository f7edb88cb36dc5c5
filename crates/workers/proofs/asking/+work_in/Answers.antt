-- What the last task comes to stands behind what the others come to.
use Rattle.std.proofs.Common.{rules, ◌≡◌, ◌⊎◌, List, [], ◌∷◌, ◌++◌, ap, ◌∙◌, subst, inl}
use Rattle.std.specs.Prelude.{Result, Ok, Err, IfOk}
use Rattle.std.specs.List.{AllZip}
use Rattle.std.proofs.lemmas.List.Elements.{AllZip-push}
use Rattle.workers.proofs.asking.+work_in.Goals as goal
use Rattle.workers.proofs.asking.+work_in.Goals.{in-Ok+in_ok-done-in-Ok, in-Err+in_ok-work_in-in-Err}

with_last : {X : Type 0} (P Q : X → X → Type 0) (tasks others done all : List X) (x y : X)
    → tasks ≡ others ++ x ∷ [] → all ≡ done ++ y ∷ [] → AllZip (λ x y. P x y ⊎ Q x y) others done → P x y ⊎ Q x y → AllZip (λ x y. P x y ⊎ Q x y) tasks all
with_last P Q tasks others done all x y parts grown zip led = rw (parts, grown) (AllZip-push (λ x y. P x y ⊎ Q x y) others done x y zip led)

all_come : {X : Type 0} (P Q : X → X → Type 0) (xs ys : List X) → AllZip P xs ys → AllZip (λ x y. P x y ⊎ Q x y) xs ys
all_come P Q [] [] z = tt
all_come P Q [] (y ∷ ys) z = absurd z
all_come P Q (x ∷ xs) [] z = absurd z
all_come P Q (x ∷ xs) (y ∷ ys) z = (inl z.0, all_come P Q xs ys z.1)

if_ok_more : {A E : Type 0} (r : Result A E) (P Q : A → Type 0) → ((a : A) → P a → Q a) → IfOk r P → IfOk r Q
if_ok_more (Ok a) P Q f p = f a p
if_ok_more (Err e) P Q f p = p

pub returns-then-len-lt2 : goal.returns-then-len-lt2
returns-then-len-lt2 g t c =
    if_ok_more c.work_first.result (λ done. AllZip g.A.Tasks.leads c.args.tasks.items done.items) (λ done. AllZip (λ x y. g.A.Tasks.leads x y ⊎ g.A.Tasks.stays x y) c.args.tasks.items done.items)
    (λ done z. all_come g.A.Tasks.leads g.A.Tasks.stays c.args.tasks.items done.items z) c.work_first.ensures

pub returns : goal.returns
returns g t c =
    let leads = g.A.Tasks.leads in
    let stays = g.A.Tasks.stays in
    let others = c.pop.new.self.items in
    let task = c.in-Some.task in
    let parts : c.args.tasks.items ≡ others ++ task ∷ [] = c.in-Some.ensures.items in
    let grown : c.push.new.self.items ≡ c.match-asked.done.0.items ++ c.match-asked.done.1 ∷ [] = c.in_ok-push.ensures.items in
    with_last leads stays c.args.tasks.items others c.match-asked.done.0.items c.push.new.self.items task c.match-asked.done.1 parts grown
    (elim c.match-asked.branch [ in-Ok+in_ok-done-in-Ok w ↦ rw w.done-is w.in_ok-done-in-Ok.ensures | in-Err+in_ok-work_in-in-Err w ↦ rw w.done-is w.in_ok-work_in-in-Err.ensures ])
    (elim c.match-asked.branch [
      | in-Ok+in_ok-done-in-Ok w ↦ rw w.done-is (subst (λ j. leads j w.join.result ⊎ stays j w.join.result) (ap (λ p. p.task.value) w.in-Ok.ensures.ok ∙ c.of.ensures) w.join.ensures)
      | in-Err+in_ok-work_in-in-Err w ↦ rw w.done-is (search rules)
    ])
