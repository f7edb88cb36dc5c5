use Rattle.std.proofs.Common.{inl, refl}
use Rattle.adapter_tests.proofs.counting.CounterAttend.attend.Goals as goal

pub returns-in-Err : goal.returns-in-Err
returns-in-Err c = record { attends = tt; wanting = inl refl; suits = tt }
