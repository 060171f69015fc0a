-- What a file that was opened holds of its buffer.
use mathlib.Core.Path.{◌≡◌, ◌∙◌}
use mathlib.Core.List.{List}
use Prim.Native.Nat.{ℕ, ◌+◌, ◌*◌}
use native.Mathlib.Omega.{arith}
use lib.ListN.{take, drop}
use lib.Seq.{take-take}
use Rattle.words.specs.Bytes.{Bytes}
use Rattle.words.proofs.Bytes.{bytes_take}
use Rattle.exam_rules.specs.File.{directory_bytes}
use Rattle.exam_rules.specs.Reading.{file_in, directory_at, entries_in}
use Rattle.exam_rules.specs.Calls.{opened, Done}
use Rattle.exam_rules.specs.Inside.{Standing}
use Rattle.exam_rules.specs.declared.Trailer.{Trailer}
use Rattle.exam_rules.proofs.Opens.{OpensIn, opens_in, standing, done-tells, trails-ends}
use Rattle.exam_rules.proofs.Parts.{start_is, many_is, part_of_first}
use Rattle.exam_rules.proofs.Entries.{directory_back}

module _ (b : List ℕ) (l exam : ℕ) (tr : Trailer) (o : opened b l exam ≡ Done tr) where
  in_buffer : OpensIn b l exam
  in_buffer = opens_in b l exam (done-tells b l exam tr o).0

  st : Standing (take l b) tr
  st = standing b l exam tr o

  pub stands-ends : tr.start + 12 * tr.entries + 32 ≡ l
  stands-ends = rw (start_is (take l b) tr st, many_is (take l b) tr st) (trails-ends (take l b) in_buffer.is.trailer ∙ in_buffer.long)

  pub stands-body : (file_in (take l b)).body ≡ take tr.start b
  unfolding file_in
  stands-body = rw (start_is (take l b) tr st) (take-take (directory_at (take l b)) l b (omega (arith, in_buffer.long)))

  pub stands-exam : (file_in (take l b)).exam ≡ exam
  unfolding file_in
  stands-exam = in_buffer.is.own

  -- the directory's bytes are those of its entries
  pub stands-directory : Bytes b → directory_bytes (file_in (take l b)).entries ≡ take (12 * tr.entries) (drop tr.start b)
  unfolding file_in
  stands-directory h =
      let f = take l b in
      rw (start_is f tr st, many_is f tr st)
      (directory_back f (entries_in f) (directory_at f) (bytes_take l b h) (omega (arith, trails-ends f in_buffer.is.trailer))
      ∙ part_of_first (12 * entries_in f) (directory_at f) l b (omega (arith, trails-ends f in_buffer.is.trailer, in_buffer.long)))
