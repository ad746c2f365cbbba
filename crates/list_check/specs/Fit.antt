-- The first place in a list at which a packet fits. Assumes nothing.
use Rattle.std.specs.Prelude.{◌≡◌, ℕ, ◌+◌, ◌<◌, ◌≤◌, max, true, cond, List, [], ◌∷◌, ◌++◌, Some, None, Option, nat_le}
use Rattle.std.specs.List.{AllByRecursion}
use Rattle.gates.specs.declared.entry.Entry.{Entry}
use Rattle.gates.specs.Open.{opens}
use Rattle.sending.specs.Rules.{total, well_gated}
use Rattle.list_check.specs.declared.fit.Cursor.{Cursor}

-- a place of a list: some entries are in front of it, and they end when it begins
pub record Placed (es : List Entry) (c : Cursor) : Type 0 where
  pub front : List Entry
  pub parts : es ≡ front ++ c.rest.now
  pub begins : c.opened ≡ total front

-- the first of these entries, if there is one, ends behind an instant
abbrev pub EndsBehind : List Entry → (opened from : ℕ) → Type 0
EndsBehind [] opened from = Unit {0}
EndsBehind (x ∷ xs) opened from = from < opened + x.interval

-- a place is moved on over the entries that end by an instant, and no further
pub record Moved (a : Cursor) (from : ℕ) (b : Cursor) : Type 0 where
  pub front : List Entry
  pub parts : a.rest.now ≡ front ++ b.rest.now
  pub begins : b.opened ≡ a.opened + total front
  pub onward : b.opened ≤ from
  pub stops : EndsBehind b.rest.now b.opened from

-- a list of a cycle: no longer than a second, each entry well gated
pub record Sound (es : List Entry) : Type 0 where
  pub short : total es ≤ 1000000000
  pub gating : AllByRecursion (λ e. well_gated e ≡ true) es

-- the first fit for e instants behind gate q, where the gate is open from c up to o, at which these entries begin
abbrev pub fit_from : List Entry → (q e c o : ℕ) → Option ℕ
fit_from [] q e c o = None
fit_from (x ∷ xs) q e c o =
    cond (opens q x.gates) (cond (nat_le (c + e) (o + x.interval)) (Some c) (fit_from xs q e c (o + x.interval)))
    (fit_from xs q e (max c (o + x.interval)) (o + x.interval))
