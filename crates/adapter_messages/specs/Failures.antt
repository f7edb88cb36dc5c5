-- How many calls failed, by what came of an exchange.
use Rattle.std.specs.Prelude.{ℕ, Result, Ok, Err}
use Rattle.adapter_messages.specs.Frames.{failures_of}
use Rattle.adapter_messages.specs.declared.exchanging.ExchangeFault.{ExchangeFault}
use Rattle.adapter_messages.specs.declared.exchanging.ExchangeFault.TheVariants.{Frame, SinkFailed, NoMemory}
use Rattle.adapter_messages.specs.declared.replying.SendFault.{SendFault}
use Rattle.adapter_messages.specs.declared.replying.SendFault.TheVariants as send

-- the fault of an exchange where a message is not sent
abbrev pub unsent : SendFault → ExchangeFault
unsent send.SinkFailed = SinkFailed
unsent send.NoMemory = NoMemory

-- of the source
abbrev pub source_failures_of : ExchangeFault → ℕ
source_failures_of (Frame f) = failures_of f
source_failures_of SinkFailed = 0
source_failures_of NoMemory = 0

abbrev pub source_failures_in : {X : Type 0} → Result X ExchangeFault → ℕ
source_failures_in (Ok x) = 0
source_failures_in (Err fault) = source_failures_of fault

-- of the sink
abbrev pub output_failures_of : ExchangeFault → ℕ
output_failures_of (Frame f) = 0
output_failures_of SinkFailed = 1
output_failures_of NoMemory = 0

abbrev pub output_failures_in : {X : Type 0} → Result X ExchangeFault → ℕ
output_failures_in (Ok x) = 0
output_failures_in (Err fault) = output_failures_of fault
