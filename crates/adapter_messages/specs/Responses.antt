-- Responses: Debug Adapter Protocol, "Base Protocol", "Response"
-- (https://microsoft.github.io/debug-adapter-protocol/specification#Base_Protocol_Response).
use Rattle.std.specs.Prelude.{◌≡◌, ℕ, List, [], ◌∷◌, Bool, true, false, ◌||◌, codes}
use Rattle.std.proofs.Common.{refl, ap}
use Rattle.serde_json.specs.Data.{Data, boolean, string}
use Rattle.serde_json.specs.Written.{has_float}
use Rattle.adapter_messages.specs.Bodies.{body_json, body_no_float}
use Rattle.adapter_messages.specs.Json.{fields, natural}
use Rattle.adapter_messages.specs.declared.body.Body.{Body}
use Rattle.adapter_messages.specs.declared.response.Outcome.{Outcome}
use Rattle.adapter_messages.specs.declared.response.Outcome.TheVariants.{Success, Failure}
use Rattle.adapter_messages.specs.declared.response.Response.{Response}

abbrev pub success_json : Response → Body → Data
success_json r body = fields (
    (codes "seq", natural r.seq) ∷ (codes "type", string (codes "response")) ∷ (codes "request_seq", natural r.request_seq)
    ∷ (codes "success", boolean true) ∷ (codes "command", string r.command) ∷ (codes "body", body_json body) ∷ [])

abbrev pub failure_json : Response → List ℕ → Data
failure_json r message = fields (
    (codes "seq", natural r.seq) ∷ (codes "type", string (codes "response")) ∷ (codes "request_seq", natural r.request_seq)
    ∷ (codes "success", boolean false) ∷ (codes "command", string r.command) ∷ (codes "message", string message) ∷ [])

abbrev pub outcome_json : Response → Outcome → Data
outcome_json r (Success body) = success_json r body
outcome_json r (Failure message) = failure_json r message

abbrev pub response_json : Response → Data
response_json r = outcome_json r r.outcome

outcome_no_float : (r : Response) (o : Outcome) → has_float (outcome_json r o) ≡ false
outcome_no_float r (Success body) = ap (λ (b : Bool). b || false) (body_no_float body)
outcome_no_float r (Failure message) = refl

pub response_no_float : (r : Response) → has_float (response_json r) ≡ false
response_no_float r = outcome_no_float r r.outcome
