use Rattle.std.proofs.Common.{refl}
use Rattle.tree.specs.Search.{search}
use Rattle.windows.specs.Windows.{WindowsShow}
use Rattle.windows.proofs.count.Goals as goal

shown : WindowsShow
unfolding search
shown = (
  (refl, (refl, (refl, tt))),
  (
    (refl, (refl, (refl, (refl, tt)))),
    (
      (refl, (refl, (refl, (refl, (refl, (refl, tt)))))),
      (
        (refl, (refl, (refl, (refl, (refl, (refl, (refl, tt))))))),
        (
          (refl, (refl, (refl, (refl, tt)))),
          (
            (refl, (refl, (refl, (refl, tt)))),
            (
              (refl, (refl, (refl, (refl, tt)))),
              (
                (refl, (refl, (refl, (refl, (refl, (refl, tt)))))),
                tt,
              ),
            ),
          ),
        ),
      ),
    ),
  ),
)

pub returns : goal.returns
returns c = record { count = refl; shown = shown }
