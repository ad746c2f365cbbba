-- The first key that the bytes spell.
use Rattle.std.proofs.Common.{◌≡◌, ℕ, List, [], ◌∷◌, ◌∙◌, refl, rules}
use borrow.Author.Tests.{tests}
use Rattle.std.specs.Str.{bytes_eq}
use Rattle.std.specs.List.{find}
use Rattle.std.proofs.lemmas.Iterator.{YieldsList-from_slice}
use Rattle.std.proofs.lemmas.Iterator.Search.{find_from_yields_List}
use Rattle.sheet.specs.declared.lines.Key.{Key}
use Rattle.sheet.specs.Lines.{key_text, spelled}
use Rattle.sheet.proofs.lines.spelled.Goals as goal

-- one by one
found : (bs : List ℕ) (ks : List Key) → find (λ k. bytes_eq bs (key_text k)) ks ≡ spelled bs ks
found bs [] = refl
found bs (k ∷ ks) = rw (found bs ks)

pub returns : goal.returns
returns c =
    let bs = c.args.bytes.now in
    let ks = c.args.keys.now in
    let first = find_from_yields_List (λ k. bytes_eq bs (key_text k)) _ _ c.find.result c.find.ensures.ran (YieldsList-from_slice ks cc) (λ x b q k. search (rules, tests)) in
    c.copied.ensures ∙ first ∙ found bs ks
