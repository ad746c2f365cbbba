-- What a port stands for, and what its calls do. Assumes nothing.
use Rattle.std.specs.Prelude.{◌≡◌, ℕ, ◌-◌, ◌≤◌, List, Option}
use Rattle.std.specs.Option.{option_map}
use Rattle.traffic.specs.declared.packet.Packet.{Packet}
use Rattle.traffic.specs.Packets.{Traffic}
use Rattle.arrivals.specs.Sources.{first}
use Rattle.refusal.specs.declared.Refusal.{Refusal}
use Rattle.refusal.specs.Told.{plain}
use Rattle.sending.specs.Calls.{Port as Model, Start as Begun, advance_by, decide}
use Rattle.port.specs.declared.start.Start.{Start}
use Rattle.port.specs.declared.start.AdvanceFault.{AdvanceFault}
use Rattle.port.specs.declared.port.Port.{Port}
use Rattle.port.specs.Station.{sheet_of}
use Rattle.port.specs.Life.{port_of}

-- the sheet of a port
abbrev pub traffic : Port → Traffic
traffic p = sheet_of p.station

-- what a port is by the rules
abbrev pub meaning : Port → Model
meaning p = port_of p.clock p.list.now (option_map (λ r. r.now) p.pending) p.station

-- the instant at the clock was decided
pub record Decides (start : Option Packet) (entry : Port) (source : List Packet) (exit : Port) (rest : List Packet) : Type 0 where
  pub sheet : exit.station.sheet ≡ entry.station.sheet
  pub port : meaning exit ≡ (decide (traffic entry) (meaning entry) source).port
  pub left : rest ≡ (decide (traffic entry) (meaning entry) source).left
  pub starts : start ≡ (decide (traffic entry) (meaning entry) source).start

-- the clock moved over instants at which nothing happens: from there on, up to the end, all goes as from the entry, for any source with this head
pub record Passes (head : Option Packet) (end : ℕ) (entry exit : Port) : Type 0 where
  pub sheet : exit.station.sheet ≡ entry.station.sheet
  pub forth : entry.clock ≤ exit.clock
  pub within : exit.clock ≤ end
  pub same : (source : List Packet) → head ≡ first source → advance_by (traffic entry) (end - exit.clock) (meaning exit) source ≡ advance_by (traffic entry) (end - entry.clock) (meaning entry) source

-- a start as it is answered: when, and the flow and the number of the packet
abbrev pub start_of : Begun → Start
start_of x = record { at = x.at; flow = x.packet.flow; number = x.packet.number }

-- the instants up to the end were decided, or those up to a start
pub record Advances (start : Option Start) (end : ℕ) (entry : Port) (source : List Packet) (exit : Port) (rest : List Packet) : Type 0 where
  pub sheet : exit.station.sheet ≡ entry.station.sheet
  pub port : meaning exit ≡ (advance_by (traffic entry) (end - entry.clock) (meaning entry) source).port
  pub left : rest ≡ (advance_by (traffic entry) (end - entry.clock) (meaning entry) source).left
  pub starts : start ≡ option_map start_of (advance_by (traffic entry) (end - entry.clock) (meaning entry) source).start

-- nothing has changed
pub record Unmoved (entry : Port) (source : List Packet) (exit : Port) (rest : List Packet) : Type 0 where
  pub sheet : exit.station.sheet ≡ entry.station.sheet
  pub port : meaning exit ≡ meaning entry
  pub left : rest ≡ source

-- 18: the clock may not go to the given instant
abbrev pub advance_refusal : AdvanceFault → Refusal
advance_refusal fault = plain 18
