-- The objects that an operation on a shared memory touches, by the operation alone (this project's own table): an
-- access touches each block that holds a byte of it, a wait reads its block and writes its queue, a notify, going on
-- and a time-out write the queue. What ends past the initial length reads the length as well.
use Rattle.std.specs.Prelude.{ℕ, ◌+◌, ◌-◌, cond, ◌==◌, ◌&&◌, List, [], ◌∷◌, ◌++◌, Option, Some, None}
use Rattle.std.specs.Int.{byte_len}
use Rattle.rw_objects.specs.declared.touch.Mode.{Mode}
use Rattle.rw_objects.specs.declared.touch.Mode.TheVariants.{Read, Write}
use Rattle.rw_objects.specs.declared.touch.Touch.{Touch}
use Rattle.rw_objects.specs.declared.entry.Kind.{Kind}
use Rattle.rw_objects.specs.declared.entry.Kind.TheVariants as kinds
use Rattle.wasm_types.specs.declared.operation.Extent.{Extent}
use Rattle.wasm_types.specs.declared.operation.Action.{Action}
use Rattle.wasm_types.specs.declared.operation.Action.TheVariants as act
use Rattle.wasm_types.specs.declared.operation.Op.{Op}
use Rattle.block_objects.specs.Objects.{block_of, block_object, queue_object}
use Rattle.wasm_types.specs.Accesses.{access_width, load_width, type_width}
use Rattle.block_objects.specs.Access.{is_within}

abbrev pub touch_of : Mode → ℕ → Touch
touch_of mode object = record { object = object; mode = mode }

-- the length, where so many bytes at an address end past the initial length
abbrev pub length_touches : Extent → ℕ → ℕ → List Touch
length_touches e address len = cond (is_within e.initial address len) [] (touch_of Read 0 ∷ [])

-- two blocks, or one where they are the same
abbrev pub block_touches : Mode → ℕ → ℕ → List Touch
block_touches mode first last = cond (first == last) (touch_of mode (block_object first) ∷ []) (touch_of mode (block_object first) ∷ touch_of mode (block_object last) ∷ [])

-- an access of at most as many bytes as a block has stands in one block or two
abbrev pub access_touches : Extent → Mode → ℕ → ℕ → List Touch
access_touches e mode address len = length_touches e address len ++ block_touches mode (block_of e.block address) (block_of e.block (address + len - 1))

-- the one object that such an access touches, where its bytes lie in one block and end within the initial length
abbrev pub lone_object : Extent → ℕ → ℕ → Option ℕ
lone_object e address len = cond (block_of e.block address == block_of e.block (address + len - 1) && is_within e.initial address len) (Some (block_object (block_of e.block address))) None

abbrev pub queue_touches : Extent → ℕ → List Touch
queue_touches e address = touch_of Write (queue_object (block_of e.block address)) ∷ []

-- a wait reads the block of its address, and writes the queue
abbrev pub wait_touches : Extent → ℕ → ℕ → List Touch
wait_touches e address len = length_touches e address len ++ (touch_of Read (block_object (block_of e.block address)) ∷ queue_touches e address)

abbrev pub action_touches : Extent → Action → List Touch
action_touches e (act.Load load address) = access_touches e Read address (byte_len (load_width load))
action_touches e (act.Store access address operand) = access_touches e Write address (byte_len (access_width access))
action_touches e (act.Rmw op access address operand) = access_touches e Write address (byte_len (access_width access))
action_touches e (act.CompareExchange access address expected replacement) = access_touches e Write address (byte_len (access_width access))
action_touches e act.Size = touch_of Read 0 ∷ []
action_touches e (act.Grow pages) = touch_of Write 0 ∷ []
action_touches e (act.Wait width thread address expected) = wait_touches e address (byte_len (type_width width))
action_touches e (act.Notify address count) = length_touches e address 4 ++ queue_touches e address
action_touches e (act.Resume thread address) = queue_touches e address
action_touches e (act.TimeOut thread address) = queue_touches e address

abbrev pub op_touches : Op → List Touch
op_touches op = action_touches op.extent op.action

-- going on after being woken, and a time-out, have kinds of their own
abbrev pub action_kind : Action → Kind
action_kind (act.Resume thread address) = kinds.Woken
action_kind (act.TimeOut thread address) = kinds.TimedOut
action_kind action = kinds.Access

abbrev pub op_kind : Op → Kind
op_kind op = action_kind op.action
