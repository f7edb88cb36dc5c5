use Rattle.std.proofs.Common.{◌≡◌, ◌⊎◌, ◌+◌, ℕ, List, Bool, arith, rules, inl, inr, refl, subst}
use Rattle.commands.specs.declared.fault.Fault.TheVariants.{NoMemory}
use Rattle.program.specs.Answers.{IsTold}
use Rattle.program.proofs.Stops.{as_requested, done_as_asked}
use Rattle.program.proofs.answering.run.Goals as goal

pub returns-clause-answered : goal.returns-clause-answered
returns-clause-answered g c = record {
  done = λ z. absurd (omega (arith, z, c.refuse-in-Err.ensures.status));
  refused = λ z. (NoMemory, inr (inr ((refl, refl), refl, refl, c.refuse-in-Err.ensures.tells)));
  unknown = λ z. absurd (omega (arith, z, c.refuse-in-Err.ensures.status));
  statuses = omega (arith, c.refuse-in-Err.ensures.status);
}

pub returns-in-Ok-Text-clause-answered : goal.returns-in-Ok-Text-clause-answered
returns-in-Ok-Text-clause-answered g c =
    let b = c.in-Err-show.ensures.begun in
    record {
      done = λ z. absurd (omega (arith, z, c.refuse.ensures.status));
      refused = λ z. (c.in-Err-show.fault, inr (inl (search rules, (refl, refl), c.in-Err-show.ensures.error, c.in-Err-show.ensures.one_failed, (_, b.0, b.1, tt, b.2, b.3), c.refuse.ensures.tells)));
      unknown = λ z. absurd (omega (arith, z, c.refuse.ensures.status));
      statuses = omega (arith, c.refuse.ensures.status);
    }

pub returns-in-Ok-clause-answered : goal.returns-in-Ok-clause-answered
returns-in-Ok-clause-answered g c =
    let asked = as_requested _ _ c.in-Ok-Request.request c.in-Ok-Request.why c.in-Ok-Request.field-0-is c.in-Ok-Request.ensures in
    let broke : Type 0 = g.R.Source.failed c.perform.new.source ≡ g.R.Source.failed c.args.source.now + 1 in
    let tells : List ℕ → Type 0 = λ text. g.E.Sink.takes c.args.errors.now text c.perform.new.errors ⊎ (g.E.Sink.failed c.perform.new.errors ≡ g.E.Sink.failed c.args.errors.now + 1) in
    record {
      done = λ z. inl (
        c.in-Ok-Request.request,
        asked.0,
        done_as_asked _ (g.F.Files.fails c.args.files.now) _ _ broke _ (Unit {0}) (Unit {0}) (Unit {0}) _ tells _ _ c.in-Ok-Request.request asked.1 c.in-Ok.ensures.done,
        c.perform.ensures.unheard,
      );
      refused = λ z. absurd (omega (arith, z));
      unknown = λ z. absurd (omega (arith, z));
      statuses = omega arith;
    }

pub returns-in-Ok-Request-clause-answered : goal.returns-in-Ok-Request-clause-answered
returns-in-Ok-Request-clause-answered g c =
    let asked = as_requested _ _ c.in-Ok-Request.request c.in-Ok-Request.why c.in-Ok-Request.field-0-is c.in-Ok-Request.ensures in
    let request = c.in-Ok-Request.request in
    let fault = c.in-Err-perform.fault in
    let told = c.refuse_request.ensures.tells in
    record {
      done = λ z. absurd (omega (arith, z, c.refuse_request.ensures.status));
      refused = λ z. (
        fault,
        inl (
          request,
          asked.0,
          c.in-Err-perform.ensures.stopped,
          subst (λ (b : Bool). IsTold (λ text. g.E.Sink.takes c.args.errors.now text c.refuse_request.new.errors ⊎ (g.E.Sink.failed c.refuse_request.new.errors ≡ g.E.Sink.failed c.args.errors.now + 1)) b request fault) asked.1
              (subst (λ e. IsTold (λ text. g.E.Sink.takes e text c.refuse_request.new.errors ⊎ (g.E.Sink.failed c.refuse_request.new.errors ≡ g.E.Sink.failed e + 1)) c.in-Ok-Request.why request fault) c.in-Err-perform.ensures.untold told),
          c.perform.ensures.unheard,
        ),
      );
      unknown = λ z. absurd (omega (arith, z, c.refuse_request.ensures.status));
      statuses = omega (arith, c.refuse_request.ensures.status);
    }
