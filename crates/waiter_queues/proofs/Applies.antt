-- What the space does to its bytes and its queues is what operations mean.
use Rattle.std.proofs.Common.{◌≡◌, ℕ, ◌+◌, ◌*◌, ◌%◌, ◌^◌, ◌<◌, Bool, true, false, cond, ◌==◌, ◌&&◌, List, [], ◌∷◌, ◌++◌, length, Some, None, slice_set, refl, sym, ap, ◌∙◌, subst, arith}
use Rattle.std.specs.Int.{byte_len}
use Rattle.std.proofs.Math.Path.{fun_ext}
use Rattle.std.proofs.lemmas.Bool.Decides.{Decides-eqb}
use Rattle.rw_objects.specs.declared.touch.Mode.TheVariants.{Read, Write}
use Rattle.rw_objects.specs.Space.{Fits, AllBelow, reply_of, values_after, touched_values}
use Rattle.wasm_types.specs.declared.operation.Action.{Action}
use Rattle.wasm_types.specs.declared.operation.Action.TheVariants as act
use Rattle.wasm_types.specs.declared.operation.Op.{Op}
use Rattle.wasm_types.specs.declared.operation.Reply.{Reply}
use Rattle.wasm_types.specs.declared.operation.Reply.TheVariants as replies
use Rattle.wasm_types.specs.declared.instruction.Load.{Load}
use Rattle.wasm_types.specs.declared.instruction.Access.{Access}
use Rattle.wasm_types.specs.declared.instruction.RmwOp.{RmwOp}
use Rattle.wasm_types.specs.declared.value.ValType.{ValType}
use Rattle.block_objects.specs.Objects.{ObjectAt, Queue, QueueAt, block_of, block_object, queue_object, blocks_in}
use Rattle.wasm_types.specs.Values.{value_of}
use Rattle.wasm_types.specs.Accesses.{access_type, access_width, load_width, type_width}
use Rattle.block_objects.specs.Access.{is_within, number_at, loaded, modified, exchanged}
use Rattle.rw_objects.specs.declared.touch.Touch.{Touch}
use Rattle.block_objects.specs.Touches.{touch_of, op_touches}
use Rattle.block_objects.specs.Queues.{after_wait, after_notify, after_resume, after_time_out}
use Rattle.block_objects.specs.Effects.{wait_reply, notify_reply, pages_seen, bytes_seen}
use Rattle.block_objects.specs.Memory.{MemoryAt, IsSound, access_answer, after_access}
use Rattle.block_objects.specs.SharedMemory.{shared_memory}
use Rattle.block_objects.proofs.Meets.{load_small, access_small, answers, leaves, stays}
use Rattle.block_objects.proofs.Seen.{bounds_agree}
use Rattle.waiter_queues.specs.Shared.{queue_at, shared_values}
use Rattle.waiter_queues.proofs.QueueModes.{queue_mode, notify_mode, wait_mode, set_queue}
use Rattle.waiter_queues.proofs.QueueSeen.{queue_of_one, queue_of_notify, pages_of_notify, queue_of_wait, pages_of_wait, bytes_of_wait, number_of_wait}

-- an operation that carries a memory's numbers
abbrev op_with : MemoryAt → Action → Op
op_with m a = record { extent = record { initial = m.limits.initial; block = m.limits.block }; action = a }

abbrev op_made : ℕ → ℕ → Action → Op
op_made i b a = record { extent = record { initial = i; block = b }; action = a }

op_of : (i b : ℕ) (a : Action) (op : Op) → op.extent.initial ≡ i → op.extent.block ≡ b → op.action ≡ a → op ≡ op_made i b a
op_of i b a op x y z = ap (λ j. op_made j op.extent.block op.action) x ∙ (ap (λ k. op_made i k op.action) y ∙ ap (op_made i b) z)

abbrev pub Answers : MemoryAt → List QueueAt → Reply → Op → Type 0
Answers m qs reply op = reply ≡ reply_of shared_memory m.limits (shared_values m qs) op

abbrev pub Leads : MemoryAt → List QueueAt → MemoryAt → List QueueAt → Op → Type 0
Leads m qs n rs op = shared_values n rs ≡ values_after shared_memory m.limits (shared_values m qs) op

-- the queue of an operation exists
notify_below : (within : Bool) (b blocks : ℕ) → AllBelow (1 + 2 * blocks) (cond within [] (touch_of Read 0 ∷ []) ++ (touch_of Write (queue_object b) ∷ [])) → b < blocks
notify_below true b blocks h = omega (arith, h.0)
notify_below false b blocks h = omega (arith, h.1.0)

wait_below : (within : Bool) (b blocks : ℕ) → AllBelow (1 + 2 * blocks) (cond within [] (touch_of Read 0 ∷ []) ++ (touch_of Read (block_object b) ∷ touch_of Write (queue_object b) ∷ [])) → b < blocks
wait_below true b blocks h = omega (arith, h.1.0)
wait_below false b blocks h = omega (arith, h.1.1.0)

-- a queue is written alike, by equal tests of equal queues
same_queue : (x y s t : Bool) (q r : QueueAt) (f : QueueAt → QueueAt) (v : ObjectAt) → x ≡ y → s ≡ t → q ≡ r → cond y (Queue (cond t (f r) r)) v ≡ cond x (Queue (cond s (f q) q)) v
same_queue x y s t q r f v xy st qr = ap (λ z. cond z (Queue (cond t (f r) r)) v) (sym xy) ∙ (ap (λ z. cond x (Queue (cond t (f z) z)) v) (sym qr) ∙ ap (λ z. cond x (Queue (cond z (f q) q)) v) (sym st))

wait_replies : (aligned within inside equal alike : Bool) → within ≡ inside → (aligned ≡ true → equal ≡ alike) → wait_reply aligned within equal ≡ wait_reply aligned inside alike
wait_replies false within inside equal alike w e = refl
wait_replies true within inside equal alike w e = ap (λ z. wait_reply true z equal) w ∙ ap (λ z. wait_reply true inside z) (e refl)

wait_tests : (aligned within inside equal alike : Bool) → within ≡ inside → (aligned ≡ true → equal ≡ alike) → (aligned && within && equal) ≡ (aligned && inside && alike)
wait_tests false within inside equal alike w e = refl
wait_tests true within inside equal alike w e = ap (λ z. z && equal) w ∙ ap (λ z. inside && z) (e refl)

module _ (m : MemoryAt) (qs : List QueueAt) (op : Op) (fits : Fits shared_memory m.limits op) where
  known : (a : Action) → op.action ≡ a → op ≡ op_with m a
  known a is = op_of m.limits.initial m.limits.block a op fits.carries.0 fits.carries.1 is

  known_fits : (a : Action) → op.action ≡ a → Fits shared_memory m.limits (op_with m a)
  known_fits a is = subst (λ (o : Op). Fits shared_memory m.limits o) (known a is) fits

  answers_as : (a : Action) (reply : Reply) → op.action ≡ a → Answers m qs reply (op_with m a) → Answers m qs reply op
  answers_as a reply is h = subst (λ (o : Op). Answers m qs reply o) (sym (known a is)) h

  leads_as : (a : Action) (n : MemoryAt) (rs : List QueueAt) → op.action ≡ a → Leads m qs n rs (op_with m a) → Leads m qs n rs op
  leads_as a n rs is h = subst (λ (o : Op). Leads m qs n rs o) (sym (known a is)) h

  module _ (sound : IsSound m) where
    pub load_answers : (load : Load) (address : ℕ) → op.action ≡ act.Load load address → Answers m qs (access_answer m address (load_width load) (λ n. replies.Value (loaded load n))) op
    load_answers load address is =
        answers_as (act.Load load address) _ is
        (answers m (queue_at qs) sound address (load_width load) (load_small load) Read (λ n. replies.Value (loaded load n)) (λ n. None) (known_fits (act.Load load address) is).below)

    pub load_leads : (load : Load) (address : ℕ) → op.action ≡ act.Load load address → Leads m qs m qs op
    load_leads load address is =
        leads_as (act.Load load address) m qs is
        (fun_ext (λ o. stays m (queue_at qs) sound address (load_width load) (load_small load) (λ n. replies.Value (loaded load n)) o))

    pub store_leads : (access : Access) (address operand : ℕ) → op.action ≡ act.Store access address operand → Leads m qs (after_access m address (access_width access) (λ n. Some operand)) qs op
    store_leads access address operand is =
        leads_as (act.Store access address operand) (after_access m address (access_width access) (λ n. Some operand)) qs is
        (fun_ext (λ o. leaves m (queue_at qs) sound address (access_width access) (access_small access) (λ n. replies.Stored) (λ n. Some operand) (known_fits (act.Store access address operand) is).below o))

    pub store_answers : (access : Access) (address operand : ℕ) → op.action ≡ act.Store access address operand → Answers m qs (access_answer m address (access_width access) (λ n. replies.Stored)) op
    store_answers access address operand is =
        answers_as (act.Store access address operand) _ is
        (answers m (queue_at qs) sound address (access_width access) (access_small access) Write (λ n. replies.Stored) (λ n. Some operand) (known_fits (act.Store access address operand) is).below)

    pub rmw_answers : (rmw : RmwOp) (access : Access) (address operand : ℕ) → op.action ≡ act.Rmw rmw access address operand → Answers m qs (access_answer m address (access_width access) (λ n. replies.Value (value_of (access_type access) n))) op
    rmw_answers rmw access address operand is =
        answers_as (act.Rmw rmw access address operand) _ is
        (answers m (queue_at qs) sound address (access_width access) (access_small access) Write (λ n. replies.Value (value_of (access_type access) n)) (λ n. Some (modified rmw n operand)) (known_fits (act.Rmw rmw access address operand) is).below)

    pub rmw_leads : (rmw : RmwOp) (access : Access) (address operand : ℕ) → op.action ≡ act.Rmw rmw access address operand → Leads m qs (after_access m address (access_width access) (λ n. Some (modified rmw n operand))) qs op
    rmw_leads rmw access address operand is =
        leads_as (act.Rmw rmw access address operand) (after_access m address (access_width access) (λ n. Some (modified rmw n operand))) qs is
        (fun_ext (λ o. leaves m (queue_at qs) sound address (access_width access) (access_small access) (λ n. replies.Value (value_of (access_type access) n)) (λ n. Some (modified rmw n operand)) (known_fits (act.Rmw rmw access address operand) is).below o))

    pub exchange_answers : (access : Access) (address expected replacement : ℕ) → op.action ≡ act.CompareExchange access address expected replacement → Answers m qs (access_answer m address (access_width access) (λ n. replies.Value (value_of (access_type access) n))) op
    exchange_answers access address expected replacement is =
        answers_as (act.CompareExchange access address expected replacement) _ is
        (answers m (queue_at qs) sound address (access_width access) (access_small access) Write (λ n. replies.Value (value_of (access_type access) n)) (exchanged expected replacement) (known_fits (act.CompareExchange access address expected replacement) is).below)

    pub exchange_leads : (access : Access) (address expected replacement : ℕ) → op.action ≡ act.CompareExchange access address expected replacement → Leads m qs (after_access m address (access_width access) (exchanged expected replacement)) qs op
    exchange_leads access address expected replacement is =
        leads_as (act.CompareExchange access address expected replacement) (after_access m address (access_width access) (exchanged expected replacement)) qs is
        (fun_ext (λ o. leaves m (queue_at qs) sound address (access_width access) (access_small access) (λ n. replies.Value (value_of (access_type access) n)) (exchanged expected replacement) (known_fits (act.CompareExchange access address expected replacement) is).below o))

    module _ (sized : length qs ≡ blocks_in m.limits.block m.limits.capacity) where
      abbrev ini : ℕ
      ini = m.limits.initial

      abbrev p : ℕ
      p = m.limits.block

      abbrev V : ℕ → ObjectAt
      V = shared_values m qs

      -- a wait
      module _ (t : ValType) (thread address expected : ℕ) (is : op.action ≡ act.Wait t thread address expected) where
        abbrev len : ℕ
        len = byte_len (type_width t)

        abbrev seen_wait : List ObjectAt
        seen_wait = touched_values (op_touches (op_with m (act.Wait t thread address expected))) V

        wait_inside : is_within (pages_seen ini seen_wait) address len ≡ is_within m.pages address len
        wait_inside =
            ap (λ n. is_within n address len) (pages_of_wait p m.pages m.bytes (queue_at qs) ini (block_of p address) (is_within ini address len)) ∙
            bounds_agree ini m.pages address len (is_within ini address len) sound.from_initial refl

        wait_equal : (address % len == 0) ≡ true → (number_at (type_width t) (address % 2 ^ p) (bytes_seen seen_wait) == expected) ≡ (number_at (type_width t) address m.bytes == expected)
        wait_equal aligned =
            ap (λ bs. number_at (type_width t) (address % 2 ^ p) bs == expected) (bytes_of_wait p m.pages m.bytes (queue_at qs) ini (block_of p address) (is_within ini address len)) ∙
            ap (λ n. n == expected) (number_of_wait p address t m.bytes sound.least_block ((Decides-eqb (address % len) 0).0 aligned))

        pub wait_answers : Answers m qs (wait_reply (address % len == 0) (is_within m.pages address len) (number_at (type_width t) address m.bytes == expected)) op
        wait_answers =
            answers_as (act.Wait t thread address expected) _ is
            (sym (wait_replies (address % len == 0) _ _ _ _ wait_inside wait_equal))

        wait_here : block_of p address < length qs
        wait_here =
            let below = wait_below (is_within ini address len) (block_of p address) (blocks_in p m.limits.capacity) (known_fits (act.Wait t thread address expected) is).below in
            omega (arith, below, sized)

        pub wait_leads : Leads m qs m (cond (address % len == 0 && is_within m.pages address len && number_at (type_width t) address m.bytes == expected)
            (slice_set qs (block_of p address) (after_wait thread address (queue_at qs (block_of p address)))) qs) op
        wait_leads =
            leads_as (act.Wait t thread address expected) m _ is
            (fun_ext (λ o.
            set_queue p m.pages m.bytes qs (block_of p address) (after_wait thread address (queue_at qs (block_of p address))) _ wait_here o ∙
            same_queue _ _ _ _ _ _ (after_wait thread address) (V o)
            (wait_mode (is_within ini address len) (block_of p address) o)
            (wait_tests (address % len == 0) _ _ _ _ wait_inside wait_equal)
            (queue_of_wait p m.pages m.bytes (queue_at qs) ini (block_of p address) (is_within ini address len))))

      -- a notify
      module _ (address count : ℕ) (is : op.action ≡ act.Notify address count) where
        abbrev seen_notify : List ObjectAt
        seen_notify = touched_values (op_touches (op_with m (act.Notify address count))) V

        notify_inside : is_within (pages_seen ini seen_notify) address 4 ≡ is_within m.pages address 4
        notify_inside =
            ap (λ n. is_within n address 4) (pages_of_notify p m.pages m.bytes (queue_at qs) ini (block_of p address) (is_within ini address 4)) ∙
            bounds_agree ini m.pages address 4 (is_within ini address 4) sound.from_initial refl

        pub notify_answers : Answers m qs (notify_reply (is_within m.pages address 4) address count (queue_at qs (block_of p address))) op
        notify_answers =
            answers_as (act.Notify address count) _ is
            (ap (λ b. notify_reply b address count (queue_at qs (block_of p address))) (sym notify_inside) ∙
            ap (notify_reply (is_within (pages_seen ini seen_notify) address 4) address count) (sym (queue_of_notify p m.pages m.bytes (queue_at qs) ini (block_of p address) (is_within ini address 4))))

        notify_here : block_of p address < length qs
        notify_here =
            let below = notify_below (is_within ini address 4) (block_of p address) (blocks_in p m.limits.capacity) (known_fits (act.Notify address count) is).below in
            omega (arith, below, sized)

        pub notify_leads : Leads m qs m (cond (is_within m.pages address 4) (slice_set qs (block_of p address) (after_notify address count (queue_at qs (block_of p address)))) qs) op
        notify_leads =
            leads_as (act.Notify address count) m _ is
            (fun_ext (λ o.
            set_queue p m.pages m.bytes qs (block_of p address) (after_notify address count (queue_at qs (block_of p address))) _ notify_here o ∙
            same_queue _ _ _ _ _ _ (after_notify address count) (V o)
            (notify_mode (is_within ini address 4) (block_of p address) o) notify_inside
            (queue_of_notify p m.pages m.bytes (queue_at qs) ini (block_of p address) (is_within ini address 4))))

      -- going on, woken or not
      module _ (thread address : ℕ) where
        queue_here : (a : Action) → op.action ≡ a → op_touches (op_with m a) ≡ touch_of Write (queue_object (block_of p address)) ∷ [] → block_of p address < length qs
        queue_here a is touches =
            let below = subst (λ (ts : List Touch). AllBelow (1 + 2 * blocks_in p m.limits.capacity) ts) touches ((known_fits a is).below) in
            omega (arith, below.0, sized)

        pub resume_leads : op.action ≡ act.Resume thread address → Leads m qs m (slice_set qs (block_of p address) (after_resume thread (queue_at qs (block_of p address)))) op
        resume_leads is =
            leads_as (act.Resume thread address) m _ is
            (fun_ext (λ o.
            set_queue p m.pages m.bytes qs (block_of p address) (after_resume thread (queue_at qs (block_of p address))) true (queue_here (act.Resume thread address) is refl) o ∙
            same_queue _ _ true true _ _ (after_resume thread) (V o) (queue_mode (block_of p address) o) refl
            (queue_of_one p m.pages m.bytes (queue_at qs) ini (block_of p address))))

        pub time_out_leads : op.action ≡ act.TimeOut thread address → Leads m qs m (slice_set qs (block_of p address) (after_time_out thread address (queue_at qs (block_of p address)))) op
        time_out_leads is =
            leads_as (act.TimeOut thread address) m _ is
            (fun_ext (λ o.
            set_queue p m.pages m.bytes qs (block_of p address) (after_time_out thread address (queue_at qs (block_of p address))) true (queue_here (act.TimeOut thread address) is refl) o ∙
            same_queue _ _ true true _ _ (after_time_out thread address) (V o) (queue_mode (block_of p address) o) refl
            (queue_of_one p m.pages m.bytes (queue_at qs) ini (block_of p address))))
