-- The house unit: an integrator or a servo, in a divider, in a turn layer.
use Rattle.makes.specs.Integrators as integrators
use Rattle.makes.specs.Servos as servos
use Rattle.unit.specs.Figures.{Figures}
use Rattle.layers.specs.Dividers.{divided}
use Rattle.layers.specs.Turns.{turned}
use Rattle.layers.specs.declared.divider.Divider.{Divider}
use Rattle.layers.specs.declared.turn.Turn.{Turn}
use Rattle.layers.specs.declared.house.Make.{Make}
use Rattle.layers.specs.declared.house.Make.TheVariants.{Integrator, Servo}

abbrev pub make_figures : Make → Figures
make_figures (Integrator a) = integrators.meaning a
make_figures (Servo a) = servos.meaning a

abbrev pub house_figures : Turn (Divider Make) → Figures
house_figures u = turned u.sense (divided u.below.divisor u.below.count (make_figures u.below.below))
