-- One record more.
use Rattle.std.proofs.Common.{◌≡◌, ◌+◌, ◌-◌, ◌≤◌, ◌<◌, true, leb, length, take, drop, sym, refl, ap, ◌∙◌, ⊎_elim, arith}
use Rattle.std.proofs.lemmas.List.{take_all, take_min, length-take, drop-drop}
use Rattle.std.proofs.lemmas.Bool.{and_parts}
use Rattle.std.proofs.lemmas.Grind.{common_steps}
use Rattle.arrivals.specs.Sources.{rises}
use Rattle.arrivals.specs.Captures.{capturable}
use Rattle.arrivals.proofs.Capturing.{one_record, within, one_more, no_rise, too_many, front_fault, front_whole}
use Rattle.arrivals.proofs.capture.Capture.new.Goals as goal

pub loop-place-init : goal.loop-place-init
loop-place-init c =
    let few = take_min 4096 c.args.packets.now in
    grind (arith, common_steps, one_record, few)

pub loop-place-preserved : goal.loop-place-preserved
loop-place-preserved c =
    let i = c.loop-place.invariant in
    let s = c.in-Some.ensures.steps in
    let few = take 4096 c.args.packets.now in
    let size = length-take 4096 c.args.packets.now in
    let n = c.loop-place.place-iterator.a.start in
    let rest = c.loop-place.place-iterator.b.parts.rest.now in
    let next : c.next.new.self.a.start - 1 ≡ n = omega (arith, s.0.0, s.0.1) in
    let skip : n - 2 + 1 ≡ c.next.new.self.a.start - 2 = omega (arith, s.0.0, s.0.1, i.2) in
    let two : 2 ≤ length rest = omega (arith, s.1.1.0, i.0.1.1) in
    let shows = s.1.1.1 ∙ ap (λ k. take k rest) i.0.1.1 in
    let most = within few n i.2 rest i.4 two in
    let more = one_more few n i.2 rest i.4 two c.in-Some.field-0-1.now shows _ (omega (arith, most)) i.5 (sym c.if-not-rises.ensures) in (
      (tt, (omega (arith, s.1.0, i.0.1.0), s.1.0 ∙ i.0.1.1)),
      tt,
      omega (arith, s.0.0, s.0.1, i.2),
      omega (arith, s.0.0, s.0.1, most),
      s.1.1.2 ∙ ap (drop 1) i.4 ∙ drop-drop 1 (n - 2) few ∙ ap (λ k. drop k few) skip,
      ap (λ k. capturable (take k few)) next ∙ more,
    )

pub returns-then-not-rises : goal.returns-then-not-rises
returns-then-not-rises c =
    let i = c.loop-place.invariant in
    let s = c.in-Some.ensures.steps in
    let few = take 4096 c.args.packets.now in
    let n = c.in-Some.place in
    let rest = c.loop-place.place-iterator.b.parts.rest.now in
    let low : 2 ≤ n = omega (arith, s.0.0, i.2) in
    let left = i.4 ∙ ap (λ k. drop (k - 2) few) (sym s.0.0) in
    let two : 2 ≤ length rest = omega (arith, s.1.1.0, i.0.1.1) in
    let shows = s.1.1.1 ∙ ap (λ k. take k rest) i.0.1.1 in
    front_fault c.args.packets.now n
    (record {
      counts = omega (arith, low);
      within = within few n low rest left two;
      before = ap (λ k. capturable (take (k - 1) few)) s.0.0 ∙ i.5;
      after = no_rise few n low rest left two c.in-Some.field-0-1.now shows _ (sym c.if-not-rises.ensures);
    })

pub returns-then-packets-gt-MOST_PACKETS : goal.returns-then-packets-gt-MOST_PACKETS
returns-then-packets-gt-MOST_PACKETS c =
    let i = c.loop-place.invariant in
    let few : length c.loop-place.place-iterator.b.parts.rest.now < 2 = ⊎_elim
    (λ e. absurd (omega (arith, e.1.0, i.3)))
    (λ e. omega (arith, e.1.1.0, i.0.1.1))
    c.in-None.ensures.steps in
    too_many c.args.packets.now (omega arith) (front_whole c.args.packets.now _ c.loop-place.place-iterator.a.start i.2 i.4 few i.5)

pub returns : goal.returns
returns c =
    let i = c.loop-place.invariant in
    let ps = c.args.packets.now in
    let few : length c.loop-place.place-iterator.b.parts.rest.now < 2 = ⊎_elim
    (λ e. absurd (omega (arith, e.1.0, i.3)))
    (λ e. omega (arith, e.1.1.0, i.0.1.1))
    c.in-None.ensures.steps in
    let whole : capturable ps ≡ true = sym (ap capturable (take_all 4096 ps (omega arith))) ∙ front_whole ps _ c.loop-place.place-iterator.a.start i.2 i.4 few i.5 in
    record { taken = whole; whole = refl; ordered = (and_parts (leb (length ps) 4096) (rises ps) whole).1 }
