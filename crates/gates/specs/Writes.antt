-- What writing a list does to the memory, and why a list is refused. Assumes nothing.
use Rattle.std.specs.Prelude.{◌≡◌, ℕ, ◌+◌, cond, ◌||◌, List, ◌++◌, length, take, drop, Some, None, Option, ◌==◌, nat_lt}
use Rattle.refusal.specs.declared.Refusal.{Refusal}
use Rattle.refusal.specs.Told.{plain}
use Rattle.gates.specs.declared.entry.Entry.{Entry}
use Rattle.gates.specs.declared.text.WriteFault.{WriteFault}
use Rattle.gates.specs.declared.text.WriteFault.TheVariants.{Entries, Memory}
use Rattle.gates.specs.declared.text.writer.Writer.{Writer}
use Rattle.gates.specs.Text.{list_text}

-- the bytes bs were written from at up to end; what stood before at and from end on stayed
pub record WrittenAt (bs : List ℕ) (at end : ℕ) (before after : List ℕ) : Type 0 where
  pub ends : end ≡ at + length bs
  pub front : take end after ≡ take at before ++ bs
  pub behind : drop end after ≡ drop end before

-- a writer wrote the bytes bs behind what it had written, into the same memory
pub record Wrote (bs : List ℕ) (before after : Writer) : Type 0 where
  pub written : WrittenAt bs before.at after.at before.memory.now after.memory.now
  pub same_memory : after.memory.ghost_name ≡ before.memory.ghost_name

-- why a list is not written into a memory of so many bytes, if it is not
abbrev pub write_fault : List Entry → ℕ → Option WriteFault
write_fault list room =
    cond (length list == 0 || nat_lt 1024 (length list)) (Some Entries)
    (cond (nat_lt room (length (list_text list))) (Some Memory) None)

-- 20: the list is empty or too long; 21: the memory is shorter than the text
abbrev pub refusal_of : WriteFault → Refusal
refusal_of Entries = plain 20
refusal_of Memory = plain 21

-- the list was written: its text is the first n bytes of the memory, and what stood behind them stayed
pub record Listed (list : List Entry) (n : ℕ) (before after : List ℕ) : Type 0 where
  pub allowed : write_fault list (length before) ≡ None
  pub long : n ≡ length (list_text list)
  pub text : take n after ≡ list_text list
  pub behind : drop n after ≡ drop n before
