-- The numbers of this project, and of the standard's pages. Definitions name them by the code's constants, which are
-- proved to be these.
use Rattle.std.specs.Prelude.{ℕ}

-- the bytes of a page, and the most pages that a memory may declare (WebAssembly Core 1.0, memory instances;
-- validation, memory types)
abbrev pub bytes_of_a_page : ℕ
bytes_of_a_page = 65536

abbrev pub pages_of_a_memory : ℕ
pages_of_a_memory = 65536

-- the most steps of a thread, and the most places of a thread's log
abbrev pub steps_of_a_thread : ℕ
steps_of_a_thread = 1000000000

-- the most threads of a run
abbrev pub threads_of_a_run : ℕ
threads_of_a_run = 16
