use Rattle.phaser_one.proofs.phaser.PhaserOne.registered.Goals as goal

pub returns : goal.returns
returns g c = rw (← c.self.view_is) c.members.ensures
