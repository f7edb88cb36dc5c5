-- When a stream is given up.
use Rattle.std.specs.Prelude.{◌≡◌, ◌≢◌, ℕ, ◌-◌, ◌^◌}
use Rattle.std.specs.IoError.{error_kind}
use Rattle.std.specs.declared.io.ErrorKind.{ErrorKind}
use Rattle.byte_streams.specs.declared.stop.Stop.{Stop}
use Rattle.byte_streams.specs.declared.stop.Stop.TheVariants.{NoCallsLeft, Stream}

-- after so many calls of the stream it is given up: no call is left, or the last one failed and was no interruption
abbrev pub IsGivenUp : ℕ → Stop → Type 0
IsGivenUp made NoCallsLeft = made ≡ 2 ^ 64 - 1
IsGivenUp made (Stream error) = error_kind error ≢ ErrorKind.Interrupted
