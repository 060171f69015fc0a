-- Writing a trailer, an entry, an empty file, a block more.
use mathlib.Core.Path.{◌≡◌, refl, ◌∙◌}
use mathlib.Core.List.{List, ◌++◌}
use Prim.Native.Nat.{ℕ, ◌+◌, ◌*◌}
use native.Mathlib.Omega.{arith}
use lib.ListN.{length, length-append, take, drop, length-drop}
use lib.Seq.{sets, length-take-le}
use Rattle.words.specs.Bytes.{low_bytes}
use Rattle.words.proofs.Stores.{join, put_before}
use Rattle.answers.proofs.Checks.{sets_over}
use Rattle.exam_rules.specs.File.{entry, entry_bytes, mark, trailer_bytes, file_bytes, empty}
use Rattle.exam_rules.specs.Numbers.{create_number}
use Rattle.exam_rules.specs.Calls.{Creates}
use Rattle.exam_rules.proofs.Lengths.{length-trailer, length-entry}
use Rattle.exam_rules.proofs.Changes.{change_done}
use Rattle.exam_rules.proofs.Accept.{create_takes}
use Rattle.exam_rules.specs.declared.Trailer.{Trailer}
use Rattle.exam_writing.specs.Inside.{Trails, Adding, Adds}

pub put_entry : (b b1 b2 b3 : List ℕ) (at s o n : ℕ) → b1 ≡ sets b at (low_bytes 4 s) → b2 ≡ sets b1 (at + 4) (low_bytes 4 o) → b3 ≡ sets b2 (at + 8) (low_bytes 4 n)
    → b3 ≡ sets b at (entry_bytes (entry s o n))
unfolding entry_bytes
put_entry b b1 b2 b3 at s o n p1 p2 p3 =
    let q2 = join b b1 b2 (low_bytes 4 s) (low_bytes 4 o) at _ p1 p2 refl in
    join b b2 b3 (low_bytes 4 s ++ low_bytes 4 o) (low_bytes 4 n) at _ q2 p3 refl

pub put_trailer : (b b1 b2 b3 b4 b5 b6 b7 : List ℕ) (at e t exam n l : ℕ)
    → b1 ≡ sets b at mark → b2 ≡ sets b1 (at + 4) (low_bytes 2 e) → b3 ≡ sets b2 (at + 6) (low_bytes 2 t)
    → b4 ≡ sets b3 (at + 8) (low_bytes 8 exam) → b5 ≡ sets b4 (at + 16) (low_bytes 4 (32 + 12 * n)) → b6 ≡ sets b5 (at + 20) (low_bytes 4 n)
    → b7 ≡ sets b6 (at + 24) (low_bytes 8 l) → b7 ≡ sets b at (trailer_bytes e t exam n l)
unfolding trailer_bytes
put_trailer b b1 b2 b3 b4 b5 b6 b7 at e t exam n l p1 p2 p3 p4 p5 p6 p7 =
    let x2 = mark ++ low_bytes 2 e in
    let x3 = x2 ++ low_bytes 2 t in
    let x4 = x3 ++ low_bytes 8 exam in
    let x5 = x4 ++ low_bytes 4 (32 + 12 * n) in
    let x6 = x5 ++ low_bytes 4 n in
    let q2 = join b b1 b2 mark (low_bytes 2 e) at _ p1 p2 refl in
    let q3 = join b b2 b3 x2 (low_bytes 2 t) at _ q2 p3 refl in
    let q4 = join b b3 b4 x3 (low_bytes 8 exam) at _ q3 p4 refl in
    let q5 = join b b4 b5 x4 (low_bytes 4 (32 + 12 * n)) at _ q4 p5 refl in
    let q6 = join b b5 b6 x5 (low_bytes 4 n) at _ q5 p6 refl in
    join b b6 b7 x6 (low_bytes 8 l) at _ q6 p7 refl

-- the place and the length that the trailer states are numbers of their own, so that a wrong one is refused as such
pub trails : (b b' : List ℕ) (tr : Trailer) (exam at stated l : ℕ) → b' ≡ sets b at (trailer_bytes tr.edition tr.t exam tr.entries stated) → at ≡ tr.start + 12 * tr.entries → stated ≡ l → l ≡ tr.start + 12 * tr.entries + 32
    → Trails b tr exam b' l
trails b b' tr exam at stated l q e1 e2 e3 = record { end = e3; bytes = rw (e1, e2) at q }

pub create_done : (b b' : List ℕ) (exam t l : ℕ) → create_number exam t (length b) ≡ 0 → Trails b (record { edition = 1; t = t; entries = 0; start = 0 }) exam b' l
    → Creates b exam t (record { number = 0; length = l }) b'
unfolding file_bytes
create_done b b' exam t l z q =
    change_done _ l (empty exam t) b b' z q.end
    (rw q.end at q.bytes ∙ sets_over (trailer_bytes 1 t exam 0 32) b (omega (arith, (create_takes exam t (length b) z).enough, length-trailer 1 t exam 0 32)))

-- ---- a block, the directory, an entry, a trailer

pub adds : (b blk b1 b2 b3 b4 : List ℕ) (tr : Trailer) (slot exam l : ℕ) → Adding b blk tr
    → b1 ≡ sets b (tr.start + length blk) (take (12 * tr.entries) (drop tr.start b)) → b2 ≡ sets b1 tr.start blk
    → b3 ≡ sets b2 (tr.start + length blk + 12 * tr.entries) (entry_bytes (entry slot tr.start (length blk)))
    → Trails b3 (record { edition = tr.edition; t = tr.t; entries = tr.entries + 1; start = tr.start + length blk }) exam b4 l
    → Adds b blk tr slot exam b4 l
adds b blk b1 b2 b3 b4 tr slot exam l h p1 p2 p3 p4 =
    let d = take (12 * tr.entries) (drop tr.start b) in
    let ent = entry_bytes (entry slot tr.start (length blk)) in
    let ld : length d ≡ 12 * tr.entries = length-take-le (12 * tr.entries) (drop tr.start b) (simp length-drop (omega (arith, h.room))) in
    let q : b2 ≡ sets b tr.start (blk ++ d) = put_before b b1 b2 blk d tr.start p1 p2 in
    let q3 : b3 ≡ sets b tr.start (blk ++ d ++ ent) = join b b2 b3 (blk ++ d) ent tr.start _ q p3 (simp length-append (omega arith)) in
    record {
      end = omega (arith, p4.end);
      bytes = join b b3 b4 (blk ++ d ++ ent) _ tr.start _ q3 p4.bytes (simp length-append (omega (arith, length-entry (entry slot tr.start (length blk)))));
    }
