use mathlib.Core.Path.{sym}
use native.Mathlib.Omega.{arith}
use lib.Seq.{length-take-le}
use Rattle.exam_salvaging.proofs.Rebuilt.{found-few, found_within, rebuilt}
use Rattle.exam_salvaging.proofs.rebuild.Goals as goal

pub slice_bounds-copy_in-end : goal.slice_bounds-copy_in-end
slice_bounds-copy_in-end c = sym (length-take-le _ _ (found_within c.requires.found))

pub copy_in-requires : goal.copy_in-requires
copy_in-requires c = omega (arith, length-take-le c.args.found.end c.args.old.now (found_within c.requires.found), c.requires.room)

pub end_file-requires : goal.end_file-requires
end_file-requires c = (omega (arith, c.requires.room), found-few c.requires.found)

pub returns : goal.returns
returns c =
    rebuilt c.args.old.now c.args.found c.requires.found c.args.exam c.args.t c.args.file.now _ _ _ c.requires.room
    c.copy_in.ensures c.put_entries.ensures _ c.end_file.ensures
