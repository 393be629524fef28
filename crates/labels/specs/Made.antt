-- What a constructor answers, by the meaning of what it made.
use Rattle.std.specs.Prelude.{Ok, Err, Result}

abbrev pub made_as : {O R X : Type 0} → (O → X) → Result O R → Result X R
made_as f (Ok o) = Ok (f o)
made_as f (Err e) = Err e
