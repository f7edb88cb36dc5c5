use Rattle.std.proofs.Common.{◌≡◌, length, take}
use Rattle.std.specs.List.{list_all}
use Rattle.wasm_types.specs.Segments.{is_within}
use Rattle.wasm_types.proofs.segments.fit_data.Given as goal

-- the segments so far are tested
abbrev pub invariant-loop-segment : goal.invariant-loop-segment
invariant-loop-segment l = l.fit ≡ list_all (λ d. is_within l.size d.offset (length d.bytes)) (take l.segment-index l.segment-items)
