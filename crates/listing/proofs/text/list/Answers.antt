use mathlib.Core.Path.{sym}
use Rattle.std.proofs.Common.{rules}
use native.Mathlib.Omega.{arith}
use Rattle.answers.proofs.Told.{refuses, handed_on}
use Rattle.listing.proofs.Answers.{listing-room, list_refused, list_done}
use Rattle.listing.proofs.text.list.Goals as goal

pub returns-in_err-trailer : goal.returns-in_err-trailer
returns-in_err-trailer c = rw (handed_on c.from_residual.ensures.1) (list_refused _ _ _ c.in_err-trailer.ensures.number (refuses _))

pub put_listing-requires : goal.put_listing-requires
put_listing-requires c =
    record {
      stands = c.in_ok-trailer.ensures.opened;
      room = record { room = omega (arith, listing-room _ _ (λ i. (c.type_inv.file i).fits) (sym c.in_ok-trailer.ensures.number)) };
    }

pub returns : goal.returns
returns c = list_done _ _ (λ i. (c.type_inv.file i).fits) (sym c.in_ok-trailer.ensures.number) _ _ (omega (arith, c.put_listing.ensures.ends)) (search rules)
