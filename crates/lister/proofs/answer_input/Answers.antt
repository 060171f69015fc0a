-- What the answer to the input makes the program write.
use Rattle.std.proofs.Common.{rules, sym, refl, ap, ◌∙◌, subst, length-take-le}
use Rattle.std.proofs.lemmas.Result.{on_ok_weaker}
use Rattle.std.specs.Io.KnownBytes.{Appends}
use Rattle.std.proofs.KnownBytes.{Appends-nil}
use Rattle.answers.proofs.Told.{refuses}
use Rattle.listing.proofs.Claims.{listed-within}
use Rattle.streams.specs.Refusal.{refusal}
use Rattle.streams.proofs.Written.{refused-output, refused-errors, done-errors}
use Rattle.lister.proofs.Output.{output_is, errors_is, text_is}
use Rattle.lister.proofs.answer_input.Goals as goal

pub slice_bounds-text-end : goal.slice_bounds-text-end
slice_bounds-text-end g c = listed-within c.in-Ok.ensures

pub slice_bounds-write_all-end : goal.slice_bounds-write_all-end
slice_bounds-write_all-end g c = sym (length-take-le _ _ (listed-within c.in-Ok.ensures))

pub returns-in-Ok-clause-output : goal.returns-in-Ok-clause-output
returns-in-Ok-clause-output g c = on_ok_weaker c.write_all.result (subst (Appends _ _) (sym (text_is (search rules) c.in-Ok.ensures refl))) c.write_all.ensures.bytes

pub returns-in-Ok-clause-errors : goal.returns-in-Ok-clause-errors
returns-in-Ok-clause-errors g c =
    on_ok_weaker c.write_all.result (λ _. subst (Appends _ _) (sym (errors_is (search rules) c.in-Ok.ensures ∙ done-errors refl)) (Appends-nil _)) c.write_all.ensures.bytes

pub returns-in-Err-clause-output : goal.returns-in-Err-clause-output
returns-in-Err-clause-output g c =
    on_ok_weaker c.say_refused.result (λ _. subst (Appends _ _) (sym (output_is (search rules) c.in-Err.ensures ∙ refused-output (refuses _) _)) (Appends-nil _)) c.say_refused.ensures

pub returns-in-Err-clause-errors : goal.returns-in-Err-clause-errors
returns-in-Err-clause-errors g c =
    on_ok_weaker c.say_refused.result (subst (Appends _ _) (sym (errors_is (search rules) c.in-Err.ensures ∙ refused-errors (refuses _) ∙ ap refusal (sym c.into.ensures)))) c.say_refused.ensures
