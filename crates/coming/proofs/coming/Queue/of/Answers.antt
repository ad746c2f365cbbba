-- Flow by flow, the first packet of each joins.
use Rattle.std.proofs.Common.{◌≡◌, ℕ, suc, ◌+◌, ◌-◌, ◌≤◌, length, vec_items, vec_len, sym, ap, subst, arith}
use Rattle.sheet.specs.Contents.{traffic_of}
use Rattle.coming.specs.Coming.{Joins, Built, held}
use Rattle.coming.proofs.Steps.{built_lined}
use Rattle.coming.proofs.Lefts.{left_all}
use Rattle.coming.proofs.coming.Queue.of.Goals as goal

pub join-requires-clause-ordered : goal.join-requires-clause-ordered
join-requires-clause-ordered c =
    let s = c.args.sheet.now in
    (built_lined (traffic_of s) s.cycle c.args.queue (c.loop-index.index - 1) (held c.loop-index.made) c.loop-index.invariant.0).0.ordered

pub loop-index-preserved : goal.loop-index-preserved
loop-index-preserved c =
    let s = c.args.sheet.now in
    let t = traffic_of s in
    let i = c.loop-index.index in
    let before = held c.loop-index.made in
    let after = held c.join.new.self in
    let e : i ≡ suc (i - 1) = omega arith in
    let next : i + 1 - 1 ≡ suc (i - 1) = omega arith in
    let joins : Joins t s.cycle c.args.queue (suc (i - 1)) 1 before after = subst (λ (k : ℕ). Joins t s.cycle c.args.queue k 1 before after) e c.join.ensures.joins in
    (subst (λ (k : ℕ). Built t s.cycle c.args.queue k after) (sym next) (before, (c.loop-index.invariant.0, joins)), omega (arith, c.join.ensures.count, c.loop-index.invariant.1), omega arith)

pub returns : goal.returns
returns c =
    let s = c.args.sheet.now in
    let t = traffic_of s in
    let made = held c.loop-index.made in
    let long : vec_len s.flows ≡ length (vec_items s.flows) = s.flows.ok.0 in
    let same = ap length c.flows.ensures in
    let all : c.loop-index.index - 1 ≡ length t.flows = omega arith in
    let built : Built t s.cycle c.args.queue (length t.flows) made = subst (λ (k : ℕ). Built t s.cycle c.args.queue k made) all c.loop-index.invariant.0 in
    let few : c.loop-index.made.len ≤ 64 = omega (arith, s.few, c.loop-index.invariant.1) in
    record {
      built = built;
      few = few;
      comes = record { few = few; lined = (built_lined t s.cycle c.args.queue (length t.flows) made built).0 };
      all = left_all t s.cycle c.args.queue s.kept made built;
    }
