-- An image that loads is opened by a blank sitting.
use Rattle.std.proofs.Common.{length, refl, ap, ◌∙◌}
use Rattle.labels.specs.Order.{Meaning}
use Rattle.image.specs.declared.header.Header.{Header}
use Rattle.image.specs.Load.{load_refusal}
use Rattle.sitting.specs.Sitting.{blank}
use Rattle.sitting.specs.Open.{after_call, just_opened, opened_unless}
use Rattle.round_trip.specs.Opens.{WrittenImagesOpen}
use Rattle.round_trip.proofs.opens.written_images_open.Goals as goal

opens : (m : Meaning) → WrittenImagesOpen m
opens m reader code cells image before outputs loads same = record {
  sitting = just_opened image (length before) outputs;
  granted =
      ap (λ o. opened_unless o blank image before outputs) (ap (load_refusal m image) same ∙ loads.loads)
      ∙ ap (after_call _ (just_opened image (length before) outputs)) loads.cells_same;
  running = refl;
  at_start = refl;
  reader_same = ap (λ (h : Header). h.reader) loads.header;
  code_same = loads.code_same;
}

pub returns : goal.returns
returns g c = λ o. opens (g.O.Order.meaning o)
