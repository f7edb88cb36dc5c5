-- The line of a version of an object: who made it, and who read it.
use Rattle.std.specs.Prelude.{ℕ, ◌+◌, ◌==◌, ◌&&◌, ◌||◌, not, Bool, if◌then◌else◌, List, [], ◌++◌, codes}
use Rattle.std.specs.List.{flat_map, filter, list_any}
use Rattle.std.specs.Fmt.{decimal}
use Rattle.replica.specs.Contradictions.{event_text}
use Rattle.replica.specs.declared.touch.ObjectTouch.{ObjectTouch}
use Rattle.replica.specs.Touched.{thread_of, event_of, version_of}

abbrev pub is_write : ObjectTouch → Bool
is_write t = t.is_write

abbrev pub is_read : ObjectTouch → Bool
is_read t = not t.is_write

-- a thread read or made the version before a version
abbrev pub knew : List ObjectTouch → ℕ → ℕ → Bool
knew touches version thread = list_any (λ t. thread_of t == thread && version_of t + 1 == version) touches

-- who made a version, and behind it whether its thread did not know the version before; version 0 no thread made
abbrev pub write_text : ℕ → (ℕ → Bool) → ObjectTouch → List ℕ
write_text version knew_before t = codes " written by " ++ event_text (event_of t) ++ (if version == 1 || knew_before (thread_of t) then [] else codes " unread")

-- the writes that made a version; version 0 has none
abbrev pub writes_text : ℕ → (ℕ → Bool) → List ObjectTouch → List ℕ
writes_text version knew_before ts =
    if list_any is_write ts then flat_map (write_text version knew_before) (filter is_write ts)
    else if version == 0 then []
    else codes " write unknown"

abbrev pub read_text : ObjectTouch → List ℕ
read_text t = codes " " ++ event_text (event_of t)

-- the reads of a version
abbrev pub reads_text : List ObjectTouch → List ℕ
reads_text ts = if list_any is_read ts then codes " read by" ++ flat_map read_text (filter is_read ts) else []

-- `O@V`, the writes that made the version and the reads of it, each by rising thread and place
abbrev pub version_line : ℕ → ℕ → (ℕ → Bool) → List ObjectTouch → List ℕ
version_line object version knew_before ts =
    decimal object ++ codes "@" ++ decimal version ++ writes_text version knew_before ts ++ reads_text ts ++ codes "\n"
