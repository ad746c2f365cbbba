-- Where a flow is there, its packet is: no deadline is far enough.
use Rattle.std.proofs.Common.{◌≡◌, ◌+◌, ◌-◌, ◌*◌, ◌^◌, ◌≤◌, true, false, ltb, ◌&&◌, refl, ap, ◌∙◌, inl, ⊎_elim, mul-le-mul_left, arith}
use Rattle.std.proofs.lemmas.Bool.{and_parts, both_ways, cases_Bool, leb-true, lt-ltb}
use Rattle.traffic.specs.Packets.{listed, arrival, job}
use Rattle.sheet.specs.Contents.{traffic_of}
use Rattle.sending.specs.Sheet.{flow}
use Rattle.coming.proofs.Dues.{kept_flow, none_of}
use Rattle.list_check.proofs.named.join.Goals as goal

pub returns-in_default : goal.returns-in_default
returns-in_default c =
    let sh = c.args.sheet.now in
    let s = traffic_of sh in
    let i = c.args.entry.now.flow in
    let n = c.args.entry.now.number in
    let f = flow s i in
    let far : (listed s.flows i && ltb (arrival f n + f.deadline) (2 ^ 64)) ≡ false = none_of _ (job s.rate i f n) c.in_default.ensures in
    inl (
      ⊎_elim
          (λ (there : listed s.flows i ≡ true).
          let parts = and_parts _ _ there in
          let k = kept_flow s i sh.kept (leb-true _ _ parts.0) (leb-true _ _ parts.1) in
          let reach : (n - 1) * f.period ≤ (n - 1) * 1000000000 = mul-le-mul_left (n - 1) k.period_most in
          let near : ltb (arrival f n + f.deadline) (2 ^ 64) ≡ true = lt-ltb _ _ (omega (arith, reach, k.deadline_most, k.period_most)) in
          absurd (both_ways (listed s.flows i && ltb (arrival f n + f.deadline) (2 ^ 64)) far (ap (λ b. b && ltb (arrival f n + f.deadline) (2 ^ 64)) there ∙ near)))
          (λ h. h)
          (cases_Bool (listed s.flows i)),
      refl,
    )
