-- The outcome of a search. Assumes nothing.
use Rattle.std.proofs.Common.{◌≡◌, ℕ, ◌-◌, ◌≤◌, Bool, false, ◌||◌, ltb, List, ◌++◌, length, take, drop, replicate, Ok, Err, Result, sym, refl, ap, ◌∙◌, arith, MatchResult}
use Rattle.std.specs.Result.{result_unwrap_or}
use Rattle.std.proofs.lemmas.List.{append-nil, take_all, drop_all, length-drop}
use Rattle.std.proofs.lemmas.Bool.{ne_eqb, le-ltb, or_from}
use Rattle.traffic.specs.declared.packet.Job.{Job}
use Rattle.gates.specs.declared.entry.Entry.{Entry}
use Rattle.sheet.specs.declared.sheet.Sheet.{Sheet}
use Rattle.sheet.specs.Contents.{traffic_of}
use Rattle.search.specs.declared.fault.SearchFault.{SearchFault}
use Rattle.search.specs.declared.fault.SearchFault.TheVariants.{EmptySheet, LittleMemory, Late, TooLong}
use Rattle.search.specs.Faults.{InWalk, unless_begun}
use Rattle.search.specs.Search.{most_entries, planned_list}
use Rattle.search.specs.Packets.{cycle_packets}
use Rattle.search.specs.Memory.{no_entry, no_window, found, answer_of, list_after, windows_after, Planned, Searched, zero_from}
use Rattle.search.specs.declared.window.Window.{Window}
use Rattle.search.proofs.Walking.{planned_fault}

-- past the first two refusals the outcome is the planned list
pub found_planned : (b : Job → Job → Bool) (s : Sheet) (entries windows : ℕ) → (length (traffic_of s).flows ≡ 0 → ⊥) → most_entries ≤ entries → most_entries ≤ windows → found b s entries windows ≡ planned_list b (cycle_packets s)
found_planned b s entries windows some e w =
    let room : (ltb entries most_entries || ltb windows most_entries) ≡ false = or_from (ltb entries most_entries) (ltb windows most_entries) (le-ltb entries most_entries e) (le-ltb windows most_entries w) in
    rw (ne_eqb (length (traffic_of s).flows) 0 some, room)

pub begun : {X : Type 0} (e : SearchFault) (old new : X) → InWalk e → unless_begun e old new ≡ new
begun EmptySheet old new h = absurd h
begun LittleMemory old new h = absurd h
begun (Late flow number) old new h = refl
begun (TooLong flow number) old new h = refl

-- the list and zero beyond it
pub listed : (r : Result (List Entry) SearchFault) (n : ℕ) (old mid : List Entry) → length mid ≡ length old → (p : Planned r n old mid) → zero_from n mid ≡ list_after r old
listed r n old mid same p =
    let long : n ≡ length p.list = let c = p.wrote.count in omega arith in
    let left : length mid - n ≡ length old - length p.list = omega arith in
    ap (λ (es : List Entry). es ++ replicate (length mid - n) no_entry) p.wrote.front
    ∙ ap (λ (k : ℕ). p.list ++ replicate k no_entry) left
    ∙ sym (ap (λ (o : Result (List Entry) SearchFault). list_after o old) p.is)

pub zero_window : (w : Window) → w.start ≡ 0 → (w.packet.flow ≡ 0) × ((w.packet.number ≡ 0) × ((w.packet.queue ≡ 0) × ((w.packet.arrival ≡ 0) × ((w.packet.deadline ≡ 0) × ((w.packet.wire ≡ 0) × (w.packet.weight ≡ 0)))))) → w ≡ no_window
zero_window w start (flow, (number, (queue, (arrival, (deadline, (wire, weight)))))) = λ i. record { start = start i; packet = record { flow = flow i; number = number i; queue = queue i; arrival = arrival i; deadline = deadline i; wire = wire i; weight = weight i } }

-- the list memory once all behind the first n entries is zero
pub cleared : (n : ℕ) (mid zs : List Entry) → zs ≡ replicate (length (take (length mid - n) (drop n mid))) no_entry → take n mid ++ (zs ++ drop (length mid - n) (drop n mid)) ≡ zero_from n mid
cleared n mid zs is =
    let long = length-drop n mid in
    let same : length (take (length mid - n) (drop n mid)) ≡ length mid - n = ap length (take_all (length mid - n) (drop n mid) (omega arith)) ∙ long in
    ap (λ (es : List Entry). take n mid ++ (zs ++ es)) (drop_all (length mid - n) (drop n mid) (omega arith)) ∙ ap (λ (es : List Entry). take n mid ++ es) (append-nil zs ∙ is ∙ ap (λ (k : ℕ). replicate k no_entry) same)

-- the answer and the memory of a search that began
pub searched : (b : Job → Job → Bool) (s : Sheet) (old mid : List Entry) (ws : List Window) (r : Result ℕ SearchFault) →
    found b s (length old) (length ws) ≡ planned_list b (cycle_packets s) →
    MatchResult r (λ n. Planned (planned_list b (cycle_packets s)) n old mid) (λ e. planned_list b (cycle_packets s) ≡ Err e) →
    length mid ≡ length old → Searched b s old ws r (zero_from (result_unwrap_or r 0) mid) (replicate (length ws) no_window)
searched b s old mid ws (Ok n) is p same =
    let whole : found b s (length old) (length ws) ≡ Ok p.list = is ∙ p.is in
    let long : n ≡ length p.list = let k = p.wrote.count in omega arith in
    record {
      value = ap Ok long ∙ sym (ap answer_of whole);
      list = listed (planned_list b (cycle_packets s)) n old mid same p ∙ sym (ap (λ (r : Result (List Entry) SearchFault). list_after r old) is);
      windows = sym (ap (λ (r : Result (List Entry) SearchFault). windows_after r ws) whole);
    }
searched b s old mid ws (Err e) is h same =
    let whole : found b s (length old) (length ws) ≡ Err e = is ∙ h in
    let walk = planned_fault b (cycle_packets s) e h in
    let size : length mid - 0 ≡ length old = omega arith in
    record {
      value = sym (ap answer_of whole);
      list = ap (λ (k : ℕ). replicate k no_entry) size ∙ sym (ap (λ (r : Result (List Entry) SearchFault). list_after r old) whole ∙ begun e old (replicate (length old) no_entry) walk);
      windows = sym (ap (λ (r : Result (List Entry) SearchFault). windows_after r ws) whole ∙ begun e ws (replicate (length ws) no_window) walk);
    }
