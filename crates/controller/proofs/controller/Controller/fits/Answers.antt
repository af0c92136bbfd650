use Rattle.std.proofs.Common.{sym, refl, ◌∙◌}
use Rattle.rules.proofs.Fits.{fits_true, fits_false}
use Rattle.controller.proofs.controller.Controller.fits.Goals as goal

pub returns-then-fits_all-clause-fits : goal.returns-then-fits_all-clause-fits
returns-then-fits_all-clause-fits g c = fits_true _ _ _ (sym c.fits_all.ensures ∙ c.if-fits_all.true)

pub returns-else-fits_all-clause-fits : goal.returns-else-fits_all-clause-fits
returns-else-fits_all-clause-fits g c = (refl, fits_false _ _ _ (sym c.fits_all.ensures ∙ c.if-fits_all.false))
