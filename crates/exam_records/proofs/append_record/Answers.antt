use mathlib.Core.Path.{sym}
use native.Mathlib.Omega.{arith}
use Rattle.exam_rules.proofs.Opens.{opens_in, open_done, trails_keep}
use Rattle.exam_records.proofs.Records.{outside, within}
use Rattle.exam_records.proofs.append_record.Goals as goal

pub returns-then-words-first : goal.returns-then-words-first
returns-then-words-first c = outside _ _ c.args.item.now _ _ (omega (arith, c.if-words-first.true))

pub returns-then-words-first-2 : goal.returns-then-words-first-2
returns-then-words-first-2 c = outside _ _ c.args.item.now _ _ (omega (arith, c.if-words-first.false, c.if-words-first-2.true))

pub slice_bounds-trailer-end : goal.slice_bounds-trailer-end
slice_bounds-trailer-end c = (opens_in _ _ _ c.requires).within

pub slice_bounds-trailer-end-2 : goal.slice_bounds-trailer-end-2
slice_bounds-trailer-end-2 c = sym (opens_in _ _ _ c.requires).long

pub trailer-trailer-requires : goal.trailer-trailer-requires
trailer-trailer-requires c = trails_keep _ (opens_in _ _ _ c.requires).is.trailer

pub append_opened-requires : goal.append_opened-requires
append_opened-requires c = sym (open_done _ _ _ _ c.requires c.trailer-trailer.ensures)

pub returns : goal.returns
returns c = within _ _ c.args.item.now _ (λ i. (c.slice_known-1.given i).fits) (omega arith) (omega (arith, c.if-words-first.false, c.if-words-first-2.false)) c.requires c.append_opened.ensures
