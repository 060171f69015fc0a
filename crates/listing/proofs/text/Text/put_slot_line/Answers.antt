use Rattle.listing.proofs.Lines.{first_fits, second_fits, third_fits, fourth_fits, slot_fits, slot_line_put}
use Rattle.listing.proofs.text.Text.put_slot_line.Goals as goal

pub put_number-requires : goal.put_number-requires
put_number-requires c = first_fits (slot_fits _ _ _ c.requires)

pub put_number-requires-2 : goal.put_number-requires-2
put_number-requires-2 c = second_fits (slot_fits _ _ _ c.requires) c.put_number.ensures

pub put_number-requires-3 : goal.put_number-requires-3
put_number-requires-3 c = third_fits (slot_fits _ _ _ c.requires) c.put_number.ensures c.put_number-2.ensures

pub put-requires : goal.put-requires
put-requires c = fourth_fits (slot_fits _ _ _ c.requires) c.put_number.ensures c.put_number-2.ensures c.put_number-3.ensures

pub returns : goal.returns
returns c = slot_line_put _ _ _ c.put_number.ensures c.put_number-2.ensures c.put_number-3.ensures c.put.ensures
