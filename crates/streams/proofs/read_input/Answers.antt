-- A read puts its bytes behind those that came before, and both were consumed.
use Rattle.std.proofs.Common.{◌≡◌, ℕ, ◌+◌, ◌≤◌, List, ◌++◌, length, take, ap, sym, ◌∙◌, subst, rules, length-take-le}
use Rattle.std.proofs.lemmas.List.{places, take-append-le}
use Rattle.std.proofs.Math.Seq.{take-append-add}
use Rattle.std.specs.Io.KnownBytes.{Consumes}
use Rattle.std.proofs.lemmas.Result.{MatchResult-at_ok}
use Rattle.std.proofs.KnownBytes.{Consumes-trans}
use borrow.Rule.Slice.PartMut.{put_mid, post_of}
use Rattle.streams.proofs.read_input.Goals as goal

-- the first bytes after a read: those from before, and those that it brought
take_more : (a n k : ℕ) (xs ys : List ℕ) → a ≤ length xs → n ≤ length ys → take (a + n) (put_mid a k xs ys) ≡ take a xs ++ take n ys
take_more a n k xs ys before fits =
    ap (λ m. take (m + n) (put_mid a k xs ys)) (sym (length-take-le a xs before))
    ∙ take-append-add (take a xs) (ys ++ post_of a k xs) n
    ∙ ap (λ l. take a xs ++ l) (take-append-le n ys (post_of a k xs) fits)

pub loop-count-preserved : goal.loop-count-preserved
loop-count-preserved g c =
    let before = c.loop-count.invariant in
    let read = MatchResult-at_ok _ _ _ c.in-Ok.is c.read.ensures.bytes in
    record {
      within = search (rules, places);
      bytes = subst (Consumes _ _) (sym (take_more _ _ _ _ _ before.within (search rules))) (Consumes-trans _ _ _ _ _ before.bytes read.0);
    }
