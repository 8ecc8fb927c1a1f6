-- Single answers of the two mappings.
use Rattle.std.specs.Prelude.{◌≡◌}
use Rattle.causes.specs.Mapping.{status_of, cause_of}

-- busy here and busy everywhere differ in the location alone;
-- a call rejected by the user is declined, one rejected elsewhere is forbidden
abbrev pub CauseExamples : Type 0
CauseExamples = (cause_of 486 ≡ (17, 5)) × (cause_of 600 ≡ (17, 0)) × (status_of 21 0 ≡ 603) × (status_of 21 5 ≡ 403)
