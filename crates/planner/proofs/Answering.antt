-- From the search of a sheet to the answer. Assumes nothing.
use Rattle.std.proofs.Common.{◌≡◌, ℕ, ◌-◌, ◌<◌, ◌≤◌, Bool, List, ◌++◌, length, take, replicate, IfOk, Ok, Err, vec_items, Result, Vec, sym, ap, ◌∙◌, subst, arith}
use Rattle.std.specs.declared.alloc.Global.{Global}
use Rattle.std.specs.declared.alloc.AllocError.{AllocError}
use Rattle.std.proofs.lemmas.List.{take-append-le, take_all}
use Rattle.std.proofs.lemmas.Bool.{ne_eqb, le-ltb}
use Rattle.traffic.specs.declared.packet.Job.{Job}
use Rattle.traffic.specs.Packets.{Traffic}
use Rattle.refusal.specs.Told.{refusal_text}
use Rattle.sheet.specs.declared.sheet.Sheet.{Sheet}
use Rattle.sheet.specs.Contents.{traffic_of}
use Rattle.gates.specs.declared.entry.Entry.{Entry}
use Rattle.gates.specs.Entries.{no_entry}
use Rattle.gates.specs.Writes.{write_fault}
use Rattle.search.specs.declared.fault.SearchFault.{SearchFault}
use Rattle.search.specs.Faults.{search_refusal}
use Rattle.coming.specs.Packets.{packets_before}
use Rattle.search.specs.Search.{Cycle, planned_list}
use Rattle.search.specs.Memory.{found, answer_of, list_after}
use Rattle.planner.specs.Answer.{packets_of_cycle, written, search_answer}

-- another text that is the same
pub made-same : (r : Result (Vec ℕ Global) AllocError) (a b : List ℕ) → a ≡ b → IfOk r (λ v. vec_items v ≡ a) → IfOk r (λ v. vec_items v ≡ b)
made-same r a b e h = subst (λ (bs : List ℕ). IfOk r (λ v. vec_items v ≡ bs)) e h

-- the packets of a cycle so long
abbrev of_length : Traffic → ℕ → Cycle
of_length t n = record { long = n; mandatory = λ q. packets_before t q n; optional = packets_before t 0 n }

-- with flows and memory enough, what is found is the planned list
pub found-is : (before : Job → Job → Bool) (s : Sheet) (entries windows : ℕ) → 0 < length (traffic_of s).flows → 1024 ≤ entries → 1024 ≤ windows → found before s entries windows ≡ planned_list before (packets_of_cycle (traffic_of s))
found-is before s entries windows some many wide =
    let flows = ne_eqb (length (traffic_of s).flows) 0 (λ e. omega arith) in
    let list = le-ltb entries 1024 many in
    let window = le-ltb windows 1024 wide in
    rw (flows, list, window) (ap (λ (n : ℕ). planned_list before (of_length (traffic_of s) n)) s.round)

-- a list was found: its text
pub found-list : (r : Result (List Entry) SearchFault) (n : ℕ) (old after : List Entry) → Ok n ≡ answer_of r → after ≡ list_after r old → search_answer r ≡ written (take n after) (write_fault (take n after) 30720)
found-list (Ok list) n old after value memory =
    let long : n ≡ length list = cc in
    let same : take n after ≡ list = ap (take n) memory ∙ ap (λ (m : ℕ). take m (list ++ replicate (length old - length list) no_entry)) long ∙ take-append-le (length list) list (replicate (length old - length list) no_entry) (omega arith) ∙ take_all (length list) list (omega arith) in
    rw same
found-list (Err e) n old after value memory = let z : ◌≡◌ {A = ℕ} 0 1 = cc in absurd (omega arith)

-- none was found: the refusal
pub found_fault : (r : Result (List Entry) SearchFault) (e : SearchFault) → Err e ≡ answer_of r → search_answer r ≡ refusal_text (search_refusal e)
found_fault (Ok list) e value = let z : ◌≡◌ {A = ℕ} 0 1 = cc in absurd (omega arith)
found_fault (Err f) e value = let same : e ≡ f = cc in ap (λ (x : SearchFault). refusal_text (search_refusal x)) (sym same)
