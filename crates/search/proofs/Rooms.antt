-- The room that a packet has among windows. Assumes nothing.
use Rattle.std.proofs.Common.{◌≡◌, ℕ, zero, suc, ◌+◌, ◌<◌, ◌≤◌, max, leb, List, [], ◌∷◌, length, get_or, take, drop, sym, refl, ap, ◌∙◌, arith}
use Rattle.std.specs.List.{AllByRecursion}
use Rattle.std.proofs.lemmas.List.{at_drop_more}
use Rattle.std.proofs.ByRecursion.{All-get_or}
use Rattle.std.proofs.lemmas.Bool.{lt-leb, cond_both}
use Rattle.search.specs.declared.window.Window.{Window}
use Rattle.search.specs.Windows.{Fits, end, last_end, latest}
use Rattle.search.specs.Search.{room}
use Rattle.search.specs.Trials.{EndsBy}
use Rattle.search.proofs.Entries.{no_window}

-- windows that end by t have their last end by t
pub last_end_passed : (t a : ℕ) (ws : List Window) → a ≤ t → AllByRecursion (EndsBy t) ws → last_end a ws ≤ t
last_end_passed t a [] low h = low
last_end_passed t a (w ∷ ws) low h = last_end_passed t (end w) ws h.0 h.1

-- a packet has room no earlier than it may start
pub room_from : (s e : ℕ) (ws : List Window) → s ≤ room s e ws
room_from s e [] = omega arith
room_from s e (w ∷ ws) = cond_both (leb (s + e) w.start) s (room (max s (end w)) e ws) (λ (r : ℕ). s ≤ r) (λ _. omega arith) (λ _. let h = room_from (max s (end w)) e ws in omega arith)

-- behind a window
pub room_on : (s e : ℕ) (w : Window) (ws : List Window) → w.start < s + e → room s e (w ∷ ws) ≡ room (max s (end w)) e ws
room_on s e w ws h = rw (lt-leb (s + e) w.start h)

-- windows that end by the first instant do not matter
pub room_passed : (s e n : ℕ) (ws : List Window) → 0 < e → AllByRecursion (EndsBy s) (take n ws) → room s e (drop n ws) ≡ room s e ws
room_passed s e zero ws some h = refl
room_passed s e (suc n) [] some h = refl
room_passed s e (suc n) (w ∷ ws) some h =
    let here = h.0 in
    let same : max s (end w) ≡ s = omega arith in
    room_passed s e n ws some h.1 ∙ sym (room_on s e w ws (omega arith) ∙ ap (λ (k : ℕ). room k e ws) same)

-- the windows from a place on
pub room_at_more : (s e i : ℕ) (ws : List Window) → i < length ws → (get_or ws i no_window).start < s + e → room s e (drop i ws) ≡ room (max s (end (get_or ws i no_window))) e (drop (i + 1) ws)
room_at_more s e i ws h late = at_drop_more (room s e) ws i no_window h ∙ room_on s e (get_or ws i no_window) (drop (i + 1) ws) late

pub fits_at : (ws : List Window) (i : ℕ) → i < length ws → AllByRecursion Fits ws → end (get_or ws i no_window) ≤ latest
fits_at ws i h fit = (All-get_or Fits ws i no_window h fit).early
