mod BaseHands
