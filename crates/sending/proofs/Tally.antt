-- The counts of starts are those of the starts answered.
use Rattle.std.proofs.Common.{◌≡◌, ℕ, zero, suc, ◌+◌, ◌-◌, ◌^◌, min, Bool, true, false, cond, not, leb, List, [], ◌∷◌, ◌++◌, Some, None, Option, sym, refl, ◌∙◌, subst, arith}
use Rattle.traffic.specs.declared.packet.Packet.{Packet}
use Rattle.traffic.specs.Packets.{Traffic}
use Rattle.gates.specs.declared.entry.Entry.{Entry}
use Rattle.sending.specs.Sheet.{mandatory}
use Rattle.sending.specs.Rules.{admitted}
use Rattle.sending.specs.Port.{State}
use Rattle.sending.specs.Calls.{now_in_force, Counts, Start, Taken, one_foreign, one_start, one_unadmitted, take_in, taken, takes, tallied, turn, welcome, with_start}
use Rattle.sending.specs.Runs.{Call, Ran, advance, call, calls, counts, made, over, started, take_over}
use Rattle.sending.specs.Promise.{StartsCounted, how_many}
use Rattle.sending.proofs.Bridge.{decided, steps, advance_steps}

-- the two counts of starts
pub record SameStarts (c d : Counts) : Type 0 where
  pub mandatory : c.mandatory ≡ d.mandatory
  pub optional : c.optional ≡ d.optional

-- packets thrown away leave them
takes_keep : (s : Traffic) (es : List Entry) (t : ℕ) (xs : List Packet) (c : Counts) (last : Option Packet) (st : State Packet) → SameStarts (takes s es t c last st xs).counts c
takes_keep s es t [] c last st = record { mandatory = refl; optional = refl }
takes_keep s es t (x ∷ xs) c last st = go (leb x.arrival t) (takes_keep s es t xs (tallied s es t last st x c) (Some x) (take_in s es t last st x))
  where
    one : (a b : Bool) → SameStarts (cond {A = Counts} a (cond {A = Counts} b c (one_unadmitted c)) (one_foreign c)) c
    one true true = record { mandatory = refl; optional = refl }
    one true false = record { mandatory = refl; optional = refl }
    one false b = record { mandatory = refl; optional = refl }

    go : (b : Bool) → SameStarts (takes s es t (tallied s es t last st x c) (Some x) (take_in s es t last st x) xs).counts (tallied s es t last st x c) →
        SameStarts (cond {A = Taken} b (takes s es t (tallied s es t last st x c) (Some x) (take_in s es t last st x) xs) (record { state = st; last = last; counts = c; left = x ∷ xs })).counts c
    go true h = let k = one (welcome s t last st x) (admitted s es x) in record { mandatory = h.mandatory ∙ k.mandatory; optional = h.optional ∙ k.optional }
    go false h = record { mandatory = refl; optional = refl }

many-append : (f : Packet → Bool) (xs ys : List Start) → how_many f (xs ++ ys) ≡ how_many f xs + how_many f ys
many-append f [] ys = omega arith
many-append f (x ∷ xs) ys = let h = many-append f xs ys in omega arith

-- the counts of a run
record Right (s : Traffic) (r : Ran) : Type 0 where
  mandatories : r.port.counts.mandatory ≡ min (how_many (mandatory s) r.answered) (2 ^ 64 - 1)
  optionals : r.port.counts.optional ≡ min (how_many (λ p. not (mandatory s p)) r.answered) (2 ^ 64 - 1)

-- a start more
start_more : (s : Traffic) (t : ℕ) (c : Counts) (out : List Start) (o : Option Packet) →
    c.mandatory ≡ min (how_many (mandatory s) out) (2 ^ 64 - 1) → c.optional ≡ min (how_many (λ p. not (mandatory s p)) out) (2 ^ 64 - 1) →
    ((with_start s o c).mandatory ≡ min (how_many (mandatory s) (out ++ started t o)) (2 ^ 64 - 1)) × ((with_start s o c).optional ≡ min (how_many (λ p. not (mandatory s p)) (out ++ started t o)) (2 ^ 64 - 1))
start_more s t c out None m n =
    let a = many-append (mandatory s) out [] in
    let b = many-append (λ p. not (mandatory s p)) out [] in
    (omega arith, omega arith)
start_more s t c out (Some p) m n =
    let x : Start = record { at = t; packet = p } in
    let a = many-append (mandatory s) out (x ∷ []) in
    let b = many-append (λ p. not (mandatory s p)) out (x ∷ []) in
    go (mandatory s p) a b
  where
    go : (d : Bool) → how_many (mandatory s) (out ++ (record { at = t; packet = p } ∷ [])) ≡ how_many (mandatory s) out + (cond d 1 0 + 0) →
        how_many (λ p. not (mandatory s p)) (out ++ (record { at = t; packet = p } ∷ [])) ≡ how_many (λ p. not (mandatory s p)) out + (cond (not d) 1 0 + 0) →
        ((one_start d c).mandatory ≡ min (how_many (mandatory s) (out ++ (record { at = t; packet = p } ∷ []))) (2 ^ 64 - 1)) × ((one_start d c).optional ≡ min (how_many (λ p. not (mandatory s p)) (out ++ (record { at = t; packet = p } ∷ []))) (2 ^ 64 - 1))
    go true a b = (omega arith, omega arith)
    go false a b = (omega arith, omega arith)

decided_right : (s : Traffic) (r : Ran) → Right s r → Right s (decided s r)
decided_right s r k =
    let same = takes_keep s (now_in_force s r.port) _ r.left r.port.counts r.port.last r.port.state in
    let both = start_more s r.port.clock (taken s r.port r.left).counts r.answered (turn s r.port r.left).start (same.mandatory ∙ k.mandatories) (same.optional ∙ k.optionals) in
    record { mandatories = both.0; optionals = both.1 }

steps_right : (s : Traffic) (n : ℕ) (r : Ran) → Right s r → Right s (steps s n r)
steps_right s zero r k = k
steps_right s (suc n) r k = go (turn s r.port r.left).start (decided_right s r k) (steps_right s n (decided s r) (decided_right s r k))
  where
    go : (o : Option Packet) → Right s (decided s r) → Right s (steps s n (decided s r)) → Right s (elim o [ None ↦ steps s n (decided s r) | Some p ↦ decided s r ])
    go None a b = b
    go (Some p) a b = a

right_cond : (s : Traffic) (b : Bool) (x y : Ran) → Right s x → Right s y → Right s (cond b x y)
right_cond s true x y f g = f
right_cond s false x y f g = g

call_right : (s : Traffic) (accepts : List Entry → Bool) (c : Call) (r : Ran) → Right s r → Right s (call s accepts c r)
call_right s accepts (advance u) r k = right_cond s _ _ r (subst (Right s) (sym (advance_steps s (u - r.port.clock) r.port r.left r.answered r.overs)) (steps_right s (u - r.port.clock) r k)) k
call_right s accepts counts r k = k
call_right s accepts (take_over es) r k = right_cond s (accepts es) (over es r) r (record { mandatories = k.mandatories; optionals = k.optionals }) k

calls_right : (s : Traffic) (accepts : List Entry → Bool) (cs : List Call) (r : Ran) → Right s r → Right s (calls s accepts cs r)
calls_right s accepts [] r k = k
calls_right s accepts (c ∷ cs) r k = calls_right s accepts cs (call s accepts c r) (call_right s accepts c r k)

pub starts_counted : StartsCounted
starts_counted s accepts first source cs = let k = calls_right s accepts cs (made first source) (record { mandatories = refl; optionals = refl }) in (k.mandatories, k.optionals)
