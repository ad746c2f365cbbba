-- The list drawn from windows: its length, and one window more. Assumes nothing.
use Rattle.std.proofs.Common.{◌≡◌, ℕ, ◌+◌, ◌-◌, ◌<◌, ◌≤◌, cond, ltb, List, [], ◌∷◌, ◌++◌, length, get_or, take, drop, set, sym, refl, ap, ◌∙◌, ⊎_elim, append_assoc, arith}
use Rattle.std.proofs.lemmas.Bool.{cases_Bool}
use Rattle.std.proofs.lemmas.List.{at_drop_more, at_drop_all, drop-drop, length-take-le, take_more, take-append-drop, take_more_set, drop-set-lt, length-append}
use Rattle.gates.specs.declared.entry.Entry.{Entry}
use Rattle.search.specs.declared.window.Window.{Window}
use Rattle.search.specs.Windows.{end, last_end, first_start}
use Rattle.search.specs.Drawn.{closed, entry, drawn, inserted_at, Wrote}

-- stands where no window is
abbrev pub no_window : Window
no_window = record { start = 0; packet = record { flow = 0; number = 0; queue = 0; arrival = 0; deadline = 0; wire = 0; weight = 0 } }

pub last_end_push : (a : ℕ) (xs : List Window) (w : Window) → last_end a (xs ++ (w ∷ [])) ≡ end w
last_end_push a [] w = refl
last_end_push a (x ∷ xs) w = last_end_push (end x) xs w

pub last_end-take : (ws : List Window) (i : ℕ) → i < length ws → last_end 0 (take (i + 1) ws) ≡ end (get_or ws i no_window)
last_end-take ws i h = ap (last_end 0) (take_more ws i no_window h) ∙ last_end_push 0 (take i ws) (get_or ws i no_window)

-- one if a is before b
abbrev pub gap : ℕ → ℕ → ℕ
gap a b = cond (ltb a b) 1 0

pub length-closed : (a b : ℕ) (es : List Entry) → length (closed a b es) ≡ gap a b + length es
length-closed a b es = ⊎_elim (λ e. rw e (omega arith)) (λ e. rw e (omega arith)) (cases_Bool (ltb a b))

-- the entries of these windows and of the stretches in front of them
abbrev pub opened : ℕ → List Window → ℕ
opened a [] = 0
opened a (w ∷ ws) = gap a w.start + (1 + opened (end w) ws)

pub length-drawn : (a b : ℕ) (xs ys : List Window) → length (drawn a (xs ++ ys) b) ≡ opened a xs + length (drawn (last_end a xs) ys b)
length-drawn a b [] ys = omega arith
length-drawn a b (x ∷ xs) ys =
    let rest = length-drawn (end x) b xs ys in
    let here = length-closed a x.start (entry x ∷ drawn (end x) (xs ++ ys) b) in
    omega arith

-- what stands behind the instant p: a stretch to the next window, and the rest
abbrev behind : List Window → ℕ → ℕ
behind [] b = 0
behind (w ∷ ws) b = 1 + length (drawn (end w) ws b)

pub length-behind : (p b : ℕ) (ys : List Window) → length (drawn p ys b) ≡ gap p (first_start ys b) + behind ys b
length-behind p b [] = length-closed p b []
length-behind p b (y ∷ ys) = let h = length-closed p y.start (entry y ∷ drawn (end y) ys b) in omega arith

-- the entries with one window more
pub length_inserted : (i b : ℕ) (w : Window) (ws : List Window) →
    length (drawn 0 (inserted_at i w ws) b) + gap (last_end 0 (take i ws)) (first_start (drop i ws) b)
    ≡ length (drawn 0 ws b) + gap (last_end 0 (take i ws)) w.start + 1 + gap (end w) (first_start (drop i ws) b)
length_inserted i b w ws =
    let p = last_end 0 (take i ws) in
    let with-w = length-drawn 0 b (take i ws) (w ∷ drop i ws) in
    let here = length-closed p w.start (entry w ∷ drawn (end w) (drop i ws) b) in
    let after = length-behind (end w) b (drop i ws) in
    let cut : length (drawn 0 ws b) ≡ opened 0 (take i ws) + length (drawn p (drop i ws) b) = ap (λ (zs : List Window). length (drawn 0 zs b)) (sym (take-append-drop i ws)) ∙ length-drawn 0 b (take i ws) (drop i ws) in
    let before = length-behind p b (drop i ws) in
    omega arith

pub gap_within : (i b : ℕ) (ws : List Window) → gap (last_end 0 (take i ws)) (first_start (drop i ws) b) ≤ length (drawn 0 ws b)
gap_within i b ws =
    let p = last_end 0 (take i ws) in
    let cut : length (drawn 0 ws b) ≡ opened 0 (take i ws) + length (drawn p (drop i ws) b) = ap (λ (zs : List Window). length (drawn 0 zs b)) (sym (take-append-drop i ws)) ∙ length-drawn 0 b (take i ws) (drop i ws) in
    let before = length-behind p b (drop i ws) in
    omega arith

-- one entry written
pub wrote_one : (es : List Entry) (n : ℕ) (e : Entry) → n < length es → Wrote (e ∷ []) n (n + 1) es (set es n e)
wrote_one es n e h = record { count = refl; front = take_more_set es n e h; behind = drop-set-lt (n + 1) es n e (omega arith) }

pub closed-append : (a b : ℕ) (es : List Entry) → closed a b [] ++ es ≡ closed a b es
closed-append a b es = ⊎_elim (λ e. rw e) (λ e. rw e) (cases_Bool (ltb a b))

-- lists that agree from one place on agree from a later one on
pub drop-later : {X : Type 0} (m k : ℕ) (xs ys : List X) → m ≤ k → drop m xs ≡ drop m ys → drop k xs ≡ drop k ys
drop-later m k xs ys h e =
    let is : m + (k - m) ≡ k = omega arith in
    ap (λ (i : ℕ). drop i xs) (sym is) ∙ sym (drop-drop (k - m) m xs) ∙ ap (drop (k - m)) e ∙ drop-drop (k - m) m ys ∙ ap (λ (i : ℕ). drop i ys) is

-- what is left to draw has room
pub left-room : (n : ℕ) (list ds whole : List Entry) → n ≤ length list → take n list ++ ds ≡ whole → n + length ds ≡ length whole
left-room n list ds whole h e = omega (arith, length-take-le n list h, simp length-append at (ap length e))

-- one turn of the drawing
pub drawn_more : (a b i n m k : ℕ) (ws : List Window) (whole l₀ l₁ l₂ l₃ : List Entry) → i < length ws →
    take n l₁ ++ drawn a (drop i ws) b ≡ whole → drop n l₁ ≡ drop n l₀ →
    Wrote (closed a (get_or ws i no_window).start []) n m l₁ l₂ → Wrote (entry (get_or ws i no_window) ∷ []) m k l₂ l₃ →
    (take k l₃ ++ drawn (end (get_or ws i no_window)) (drop (i + 1) ws) b ≡ whole) × (drop k l₃ ≡ drop k l₀)
drawn_more a b i n m k ws whole l₀ l₁ l₂ l₃ h inv same p q =
    let w = get_or ws i no_window in
    let rest = drawn (end w) (drop (i + 1) ws) b in
    let step : drawn a (drop i ws) b ≡ closed a w.start (entry w ∷ rest) = at_drop_more (λ zs. drawn a zs b) ws i no_window h in
    let front : take k l₃ ≡ (take n l₁ ++ closed a w.start []) ++ (entry w ∷ []) = q.front ∙ ap (λ (zs : List Entry). zs ++ (entry w ∷ [])) p.front in
    let join : ((take n l₁ ++ closed a w.start []) ++ (entry w ∷ [])) ++ rest ≡ take n l₁ ++ closed a w.start (entry w ∷ rest) =
    append_assoc (take n l₁ ++ closed a w.start []) (entry w ∷ []) rest ∙ append_assoc (take n l₁) (closed a w.start []) (entry w ∷ rest) ∙ ap (λ (zs : List Entry). take n l₁ ++ zs) (closed-append a w.start (entry w ∷ rest)) in
    let mk : m ≤ k = omega (arith, q.count) in
    let nk : n ≤ k = omega (arith, p.count, q.count) in (
      ap (λ (zs : List Entry). zs ++ rest) front ∙ join ∙ ap (λ (zs : List Entry). take n l₁ ++ zs) (sym step) ∙ inv,
      q.behind ∙ drop-later m k l₂ l₁ mk p.behind ∙ drop-later n k l₁ l₀ nk same,
    )

-- the end of the drawing
pub drawn_all : (a b i n m : ℕ) (ws : List Window) (whole l₀ l₁ l₂ : List Entry) → length ws ≤ i → n ≤ length l₁ →
    take n l₁ ++ drawn a (drop i ws) b ≡ whole → drop n l₁ ≡ drop n l₀ → Wrote (closed a b []) n m l₁ l₂ → Wrote whole 0 m l₀ l₂
drawn_all a b i n m ws whole l₀ l₁ l₂ h room inv same p =
    let last : drawn a (drop i ws) b ≡ closed a b [] = at_drop_all (λ zs. drawn a zs b) ws i h in
    let all : take n l₁ ++ closed a b [] ≡ whole = ap (λ (zs : List Entry). take n l₁ ++ zs) (sym last) ∙ inv in
    let nm : n ≤ m = omega (arith, p.count) in
    record {
      count = omega (arith, p.count, left-room n l₁ (closed a b []) whole room all);
      front = p.front ∙ all;
      behind = p.behind ∙ drop-later n m l₁ l₀ nm same;
    }
