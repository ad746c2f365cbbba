-- One instant, and those at which nothing happens.
use Rattle.std.proofs.Common.{◌≡◌, ℕ, suc, ◌-◌, Some, None, sym, ap, ◌∙◌, subst, arith, Bor}
use Rattle.std.specs.Option.{option_map}
use Rattle.traffic.specs.Packets.{Traffic}
use Rattle.sheet.specs.declared.sheet.Sheet.{Sheet}
use Rattle.sheet.specs.Contents.{traffic_of}
use Rattle.sending.specs.Calls.{Advanced, Port, advance_by}
use Rattle.port.specs.Meaning.{traffic, meaning, start_of}
use Rattle.port.proofs.Running.{run_start, run_on}
use Rattle.port.proofs.port.Port.run_to.Goals as goal

pub returns-in-Some : goal.returns-in-Some
returns-in-Some g c =
    let m = c.args.self.now in
    let x = c.loop-self.self in
    let told = c.in-Some.ensures in
    let same : traffic x ≡ traffic m = ap (λ (r : Bor Sheet). traffic_of r.now) c.loop-self.invariant.0 in
    let n : c.args.end - x.clock ≡ suc (c.args.end - x.clock - 1) = omega (arith, c.loop-self-test.true) in
    let total : advance_by (traffic m) (c.args.end - m.clock) (meaning m) (g.S.ArrivalSource.arrivals c.args.source.now) ≡ record { port = meaning c.decide.new.self; left = g.S.ArrivalSource.arrivals c.decide.new.source; start = Some (record { at = x.clock; packet = c.in-Some.packet }) } =
    sym c.loop-self.invariant.2 ∙ run_start (traffic m) (traffic x) same (meaning x) (meaning c.decide.new.self) (g.S.ArrivalSource.arrivals c.loop-self.source) (g.S.ArrivalSource.arrivals c.decide.new.source) c.in-Some.packet told.port told.left told.starts (c.args.end - x.clock) (c.args.end - x.clock - 1) n in
    record {
      sheet = told.sheet ∙ c.loop-self.invariant.0;
      port = ap (λ (a : Advanced). a.port) (sym total);
      left = ap (λ (a : Advanced). a.left) (sym total);
      starts = ap (λ (a : Advanced). option_map start_of a.start) (sym total);
    }

pub loop-self-preserved : goal.loop-self-preserved
loop-self-preserved g c =
    let m = c.args.self.now in
    let x = c.loop-self.self in
    let d = c.decide.new.self in
    let told = c.in_default.ensures in
    let rest = g.S.ArrivalSource.arrivals c.decide.new.source in
    let sheets : d.station.sheet ≡ m.station.sheet = told.sheet ∙ c.loop-self.invariant.0 in
    let same : traffic x ≡ traffic m = ap (λ (r : Bor Sheet). traffic_of r.now) c.loop-self.invariant.0 in
    let same-d : traffic d ≡ traffic m = ap (λ (r : Bor Sheet). traffic_of r.now) sheets in
    let later : d.clock ≡ suc x.clock = ap (λ (p : Port). p.clock) told.port in
    let n : c.args.end - x.clock ≡ suc (c.args.end - d.clock) = omega (arith, c.loop-self-test.true) in
    let on : advance_by (traffic m) (c.args.end - x.clock) (meaning x) (g.S.ArrivalSource.arrivals c.loop-self.source) ≡ advance_by (traffic m) (c.args.end - d.clock) (meaning d) rest =
    run_on (traffic m) (traffic x) same (meaning x) (meaning d) (g.S.ArrivalSource.arrivals c.loop-self.source) rest told.port told.left told.starts (c.args.end - x.clock) (c.args.end - d.clock) n in
    let passes = subst (λ (s : Traffic). advance_by s (c.args.end - c.pass.new.self.clock) (meaning c.pass.new.self) rest ≡ advance_by s (c.args.end - d.clock) (meaning d) rest) same-d (c.pass.ensures.same rest c.head-head.ensures) in
    (c.pass.ensures.sheet ∙ sheets, c.pass.ensures.within, passes ∙ sym on ∙ c.loop-self.invariant.2)

pub returns : goal.returns
returns g c =
    let m = c.args.self.now in
    let x = c.loop-self.self in
    let xs = g.S.ArrivalSource.arrivals c.loop-self.source in
    let n : c.args.end - x.clock ≡ 0 = omega (arith, c.loop-self-test.false) in
    let done : advance_by (traffic m) (c.args.end - m.clock) (meaning m) (g.S.ArrivalSource.arrivals c.args.source.now) ≡ record { port = meaning x; left = xs; start = None } =
    sym c.loop-self.invariant.2 ∙ ap (λ (k : ℕ). advance_by (traffic m) k (meaning x) xs) n in
    record {
      sheet = c.loop-self.invariant.0;
      port = ap (λ (a : Advanced). a.port) (sym done);
      left = ap (λ (a : Advanced). a.left) (sym done);
      starts = ap (λ (a : Advanced). option_map start_of a.start) (sym done);
    }
